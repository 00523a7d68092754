-- The positions of group 3 by blocks: over a block q, p, t and u stay. The literals of a clause, the texts that are kept of them, and what is
-- written.
use Rattle.std.specs.Prelude.{◌≡◌, Bool, true, false, List, [], ◌∷◌, ◌++◌, ℕ, ◌+◌, ◌-◌, ◌*◌, ◌/◌, ◌%◌, ◌^◌, ◌≤◌, ◌<◌, ℤ, pos, neg_ℤ, length, get_or}
use Rattle.encoding.specs.Variables.{step}
use Rattle.encoding.specs.Clauses.{each, ◌∪◌}
use Rattle.decimal.specs.Wrote.{Wrote}
use Rattle.clause_sizes.specs.declared.Sizes.{Sizes}
use Rattle.clause_sizes.specs.Numbers.{number_of}
use Rattle.clause_indices.specs.declared.Indices.{Indices}
use Rattle.clause_indices.specs.Indices.{marks_of, extensions}
use Rattle.clause_list.specs.Position.{extension_at, shared_at, extensions_at}
use Rattle.clause_words.specs.Text.{spaced_text, line_text, lines_text}
use Rattle.clause_text.specs.declared.keeping.Stores.{Stores}
use Rattle.clause_text.specs.Kept.{Kept}

abbrev pub signed : Bool → ℕ → ℤ
signed true k = neg_ℤ (pos k)
signed false k = pos k

-- the number for v, one of 16, or 0
pub record NumberAt (numbers : List ℕ) (v r : ℕ) : Type 0 where
  pub there : v < 16 → r ≡ get_or numbers v 0
  pub none : 16 ≤ v → r ≡ 0

-- a slot for a literal may have the text of any, or of any negative one; its name is the number
abbrev pub literal_texts : Bool → (slot name : ℕ) → List ℕ
literal_texts minus k name = spaced_text (signed minus name ∷ [])

module _ (z : Sizes) where
  abbrev M : ℕ
  M = 2 ^ z.candidate.sets

  abbrev S : ℕ
  S = 2 ^ z.reference.sets

  -- ---- the literals of a clause: the first, those in the middle, and the last

  -- -step(p, l, t) and the marks of p, l, t against K
  abbrev pub middle_of : (p t l K : ℕ) → List ℤ
  middle_of p t l K = neg_ℤ (pos (number_of z (step p l t))) ∷ marks_of z p l t K z.candidate.sets

  -- a clause of group 3, by the numbers of its first and its last path
  abbrev pub line_of : Indices → (head last : ℕ) → List ℤ
  line_of x head last = signed true head ∷ (middle_of x.p.0 x.t.0 x.l x.k ++ (signed false last ∷ []))

  -- the numbers of these paths, after those of the first paths to the same states
  abbrev pub head_number : Indices → ℕ → ℕ
  head_number x head = head + (x.i * z.reference.subsets + x.j)

  abbrev pub last_number : Indices → (last F : ℕ) → ℕ
  last_number x last F = last + ((x.i ∪ x.k) * z.reference.subsets + (x.j ∪ F))

  -- what `head` and `last` have to be for that, and F
  pub record Firsts (head last F : ℕ) : Type 0 where
    pub head_some : 0 < head
    pub head_le : head ≤ 4_199_424
    pub last_some : 0 < last
    pub last_le : last ≤ 4_199_424
    pub marks_lt : F < S

  -- ---- their slots, and the texts of each slot

  -- the slot of the middle literals, and the name of p and t
  abbrev pub middle_slot : (l K : ℕ) → ℕ
  middle_slot l K = l * M + K

  abbrev pub pair_name : (p t : ℕ) → ℕ
  pair_name p t = 1 + (p * z.candidate.states + t)

  abbrev pub middle_texts : (slot name : ℕ) → List ℕ
  middle_texts k name = spaced_text (middle_of ((name - 1) / z.candidate.states) ((name - 1) % z.candidate.states) (k / M) (k % M))

  -- all that is kept while lines are written: first paths, middle literals and last paths
  pub record Texts (s : Stores) : Type 0 where
    pub heads_kept : Kept (literal_texts true) 16 s.heads.now
    pub middles_kept : Kept middle_texts 96 s.middles.now
    pub lasts_kept : Kept (literal_texts false) 16 s.lasts.now

  -- ---- what is written

  module _ (destinations marks : List ℕ) where
    abbrev pub ExtensionsShort : Type 0
    ExtensionsShort = (y : ℕ) → y < extensions z → shared_at z destinations y ≡ true → length (line_text (extension_at z destinations marks y)) ≤ 80

    -- the lines of the clauses that stand at the positions of group 3 from x on to y
    pub record Extensions (x : ℕ) (d : List ℕ) (at : ℕ) (e : List ℕ) (k y : ℕ) : Type 0 where
      pub count : ℕ
      pub within : x + count ≤ extensions z
      pub text : Wrote d at (lines_text (each count (λ o. extensions_at z destinations marks (x + o)))) e k
      pub next : y ≡ x + count
