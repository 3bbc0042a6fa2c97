-- What the scanner's own functions return.
use Rattle.std.specs.Prelude.{ℕ, ◌==◌, nat_le, Bool, false, List, [], ◌∷◌, length, take, Option, Some, None, if◌then◌else◌}
use Rattle.std.specs.Str.{bytes_eq}
use Rattle.std.specs.Char.{is_ascii_lowercase, is_ascii_digit}
use Rattle.conditions.specs.declared.tree.Op.TheVariants.{Equal, NotEqual, Less, AtMost, More, AtLeast}
use Rattle.cond_lang.specs.declared.scanner.Token.{Token}
use Rattle.cond_lang.specs.declared.scanner.Token.TheVariants.{Ranks, Number, Open, Close, Comma, Dash, Plus, Star, Relation}
use Rattle.cond_lang.specs.declared.scanner.Piece.{Piece}
use Rattle.cond_lang.specs.declared.scanner.Piece.TheVariants.{Separator, Token as TokenPiece, StrayByte, UnknownWord, LongNumber}
use Rattle.cond_lang.specs.Cut.{words, is_separator, is_comment_sign, is_in_comment, are_ranks, named_by, decimal}
use Rattle.cond_lang.specs.Runs.{run}

-- the token of the table's entry with this text
abbrev pub token_of : List (List ℕ × Token) → List ℕ → Option Token
token_of [] p = None
token_of (entry ∷ table) p = if bytes_eq p entry.0 then Some entry.1 else token_of table p

abbrev pub begins_with : ℕ → List ℕ → Bool
begins_with c [] = false
begins_with c (d ∷ s) = d == c

-- of two symbols the one with an equals sign as its second byte, if the text goes on with one
abbrev pub by_equals : List ℕ → Token → Option (Token × ℕ) → Option (Token × ℕ)
by_equals s token shorter = if begins_with 61 s then Some (token, 2) else shorter

-- the longest symbol of a byte and the text after it, and its length
abbrev pub symbol_after : ℕ → List ℕ → Option (Token × ℕ)
symbol_after c s =
    if c == 40 then Some (Open, 1)
    else (if c == 41 then Some (Close, 1)
    else (if c == 44 then Some (Comma, 1)
    else (if c == 45 then Some (Dash, 1)
    else (if c == 43 then Some (Plus, 1)
    else (if c == 42 then Some (Star, 1)
    else (if c == 61 then by_equals s (Relation Equal) None
    else (if c == 33 then by_equals s (Relation NotEqual) None
    else (if c == 60 then by_equals s (Relation AtMost) (Some (Relation Less, 1))
    else (if c == 62 then by_equals s (Relation AtLeast) (Some (Relation More, 1))
    else None)))))))))

-- the longest symbol that the text begins with, and its length
abbrev pub symbol_at : List ℕ → Option (Token × ℕ)
symbol_at [] = None
symbol_at (c ∷ s) = symbol_after c s

abbrev pub token_or : Piece → Option Token → Piece
token_or other None = other
token_or other (Some t) = TokenPiece t

-- what letters are that are no known word
unfoldable pub ranks_piece : List ℕ → Piece
ranks_piece p = if are_ranks p then TokenPiece (Ranks (named_by p)) else UnknownWord

-- what a run of letters is
abbrev pub word_piece : List ℕ → Piece
word_piece p = token_or (ranks_piece p) (token_of words p)

-- what a run of digits is
abbrev pub number_piece : List ℕ → Piece
number_piece p = if nat_le (length p) 4 then TokenPiece (Number (decimal p)) else LongNumber

abbrev pub symbol_piece : Option (Token × ℕ) → Piece × ℕ
symbol_piece None = (StrayByte, 1)
symbol_piece (Some s) = (TokenPiece s.0, s.1)

-- what the first such bytes of a text are, and how many these are
abbrev pub run_piece : (ℕ → Bool) → (List ℕ → Piece) → List ℕ → Piece × ℕ
run_piece f piece s = (piece (take (run f s) s), run f s)

-- the first piece of a text that isn't empty, and its length
abbrev pub piece_at : List ℕ → Piece × ℕ
piece_at [] = (StrayByte, 0)
piece_at (c ∷ s) =
    if is_separator c then (Separator, 1)
    else (if is_comment_sign c then run_piece is_in_comment (λ p. Separator) (c ∷ s)
    else (if is_ascii_lowercase c then run_piece is_ascii_lowercase word_piece (c ∷ s)
    else (if is_ascii_digit c then run_piece is_ascii_digit number_piece (c ∷ s)
    else symbol_piece (symbol_after c s))))
