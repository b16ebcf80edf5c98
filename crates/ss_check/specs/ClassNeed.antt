-- The kind of class that a statement needs.

-- permanent entities; entities that can end, temporary ones or event notices; event notices
pub data ClassNeed : Type 0 where
  Permanent Ending Event : ClassNeed
