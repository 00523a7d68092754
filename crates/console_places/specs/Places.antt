-- DEFINITION: places in a text: an offset from 0, its line and column from 1, and the byte that stands there; none where the text ends, or where it was not looked at.
use Rattle.std.specs.Prelude.{cond, List, [], ◌∷◌, ℕ, ◌+◌, ◌-◌, ◌^◌, min, ltb, eqb, take, slice_get, Option, None}
use Rattle.console_places.specs.declared.Place.{Place}

abbrev pub first : Place
first = record { offset = 0; line = 1; column = 1; byte = None }

-- numbers stop at the largest of 64 bits
abbrev pub more : ℕ → ℕ
more x = min (x + 1) (2 ^ 64 - 1)

-- behind a byte: a line feed (10) ends its line
abbrev pub next : Place → ℕ → Place
next p b =
    cond (eqb b 10) (record { offset = more p.offset; line = more p.line; column = 1; byte = None })
    (record { offset = more p.offset; line = p.line; column = more p.column; byte = None })

-- behind a text that begins at p
abbrev pub after : Place → List ℕ → Place
after p [] = p
after p (b ∷ s) = after (next p b) s

-- the place of the offset o in the text s
abbrev pub place_of : List ℕ → ℕ → Place
place_of s o = after first (take o s)

-- the same with the byte that stands there
abbrev pub byte_at : List ℕ → ℕ → Option ℕ
byte_at s o = slice_get s o

abbrev pub seen_at : List ℕ → ℕ → Place
seen_at s o = let p = place_of s o in record { offset = p.offset; line = p.line; column = p.column; byte = byte_at s o }

-- the offset o, before p and on its line
abbrev pub back : Place → ℕ → Place
back p o = record { offset = o; line = p.line; column = p.column - (p.offset - o); byte = None }

-- the place of the offset o, where the piece s of a text begins at p
abbrev pub within : Place → List ℕ → ℕ → Place
within p s o = cond (ltb o p.offset) (back p o) (after p (take (o - p.offset) s))
