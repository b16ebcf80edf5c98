-- The functions of the language.

-- ABS.F, MAX.F, MIN.F, DIV.F and MOD.F
pub data LanguageFunction : Type 0 where
  Absolute Greatest Least Quotient Remainder : LanguageFunction
