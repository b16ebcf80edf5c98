-- The definitions of seat lists: filing, the trees that hold them, orders of seats, and the laws
-- of filing.
pub mod Filing
pub mod Trees
pub mod Orders
pub mod Laws
