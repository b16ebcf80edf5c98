-- The kinds of the bytes of a text.
use Rattle.std.specs.Prelude.{ℕ, Bool, ◌&&◌, ◌||◌, not, ◌==◌, nat_le, Option, Some, None, if◌then◌else◌, is_some}
use Rattle.std.specs.Char.{is_ascii_alphabetic, is_ascii_digit}
use Rattle.ss_words.specs.declared.characters.TheConstants.{TAB, BLANK, TILDE, STOP, PLUS_SIGN, MINUS_SIGN, ASTERISK}
use Rattle.ss_words.specs.declared.characters.TheConstants.{OPENING_PARENTHESIS, CLOSING_PARENTHESIS, COMMA}
use Rattle.ss_words.specs.declared.characters.TheConstants.{EQUALS_SIGN, LESS_SIGN, GREATER_SIGN}
use Rattle.ss_words.specs.declared.word.Sign.{Sign}
use Rattle.ss_words.specs.declared.word.Sign.TheVariants.{Plus, Minus, Star, Open, Close, Comma, Equal, Less, Greater}
use Rattle.ss_words.specs.declared.word.Sign.TheVariants.{LessEqual, GreaterEqual}

-- a byte that is allowed in a line: a tab, or a blank to `~`
unfoldable pub is_allowed : ℕ → Bool
is_allowed b = b == TAB || (nat_le BLANK b && nat_le b TILDE)

-- a blank or a tab
unfoldable pub is_blank : ℕ → Bool
is_blank b = b == BLANK || b == TAB

-- a byte of a run: a letter, a digit or a stop
unfoldable pub in_run : ℕ → Bool
in_run b = is_ascii_alphabetic b || is_ascii_digit b || b == STOP

-- the sign that one byte is
unfoldable pub one_byte_sign : ℕ → Option Sign
one_byte_sign b =
    if b == PLUS_SIGN then Some Plus
    else (if b == MINUS_SIGN then Some Minus
    else (if b == ASTERISK then Some Star
    else (if b == OPENING_PARENTHESIS then Some Open
    else (if b == CLOSING_PARENTHESIS then Some Close
    else (if b == COMMA then Some Comma
    else (if b == EQUALS_SIGN then Some Equal
    else (if b == LESS_SIGN then Some Less
    else (if b == GREATER_SIGN then Some Greater
    else None))))))))

-- the sign that begins at a byte before the byte `next`: `<` and `>` take an `=` directly after
unfoldable pub sign_from : ℕ → ℕ → Option Sign
sign_from b next =
    if b == LESS_SIGN && next == EQUALS_SIGN then Some LessEqual
    else (if b == GREATER_SIGN && next == EQUALS_SIGN then Some GreaterEqual
    else one_byte_sign b)

-- how many bytes a sign has
abbrev pub sign_len : Sign → ℕ
sign_len LessEqual = 2
sign_len GreaterEqual = 2
sign_len Plus = 1
sign_len Minus = 1
sign_len Star = 1
sign_len Open = 1
sign_len Close = 1
sign_len Comma = 1
sign_len Equal = 1
sign_len Less = 1
sign_len Greater = 1

-- a byte continues the run, or the sign of two bytes, of the byte `last` before it
unfoldable pub is_joined : ℕ → ℕ → Bool
is_joined last b = (in_run last && in_run b) || ((last == LESS_SIGN || last == GREATER_SIGN) && b == EQUALS_SIGN)

-- a byte that is not allowed in a line; or, outside comments (`plain`), of no blank, run or sign
unfoldable pub is_stray : ℕ → ℕ → Bool
is_stray b plain = not (is_allowed b && (in_run plain || is_blank plain || is_some (one_byte_sign plain)))
