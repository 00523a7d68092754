-- Laws of the names in the text, one by one.
use mathlib.Core.Path.{◌≡◌, refl, sym, ap, ◌∙◌, subst}
use mathlib.Core.Bool.{false}
use mathlib.Core.List.{List, [], ◌∷◌, ◌++◌}
use Prim.Native.Nat.{ℕ, suc, ◌+◌, ◌-◌, ◌≤◌, ◌<◌}
use native.Mathlib.Decide.{dec_lt, ℕ_discrete}
use native.Mathlib.Omega.{arith}
use borrow.Author.Tests.{le-leb, lt-leb}
use lib.ListN.{length, get_or, length-append, get_or-eq_default}
use lib.Seq.{slice}
use Rattle.std.proofs.Common.{Result, Ok, Err}
use Rattle.refusals.specs.declared.Refusal.{Refusal}
use Rattle.refusals.specs.declared.Refusal.TheVariants.{Size}
use Rattle.hoa_text.specs.Tokens.{blank, left}
use Rattle.hoa_text.specs.Grammar.{refuses, then}
use Rattle.hoa_text.specs.Header.{name_given, naming, names_read, names_item}
use Rattle.hoa_text.specs.RunOffsets.{digit_blank}
use Rattle.hoa_text.specs.Names.{last_name}
use Rattle.hoa_tokens.specs.declared.Token.TheVariants.{Number, Quoted}
use Rattle.hoa_tokens.specs.Answers.{Reads}
use Rattle.hoa_names.specs.declared.Names.{Names}
use Rattle.hoa_names.specs.declared.NamesRead.{NamesRead}
use Rattle.hoa_names.specs.Answers.{held, NamesAnswered, ReadsNames}
use Rattle.hoa_names.specs.Naming.{Read, Answers, Roomy, Holds, More, MoreAnswered, OneMore, GivenAnswered, Given}
use Rattle.hoa_names.proofs.Slots.{held_length, held_lengths, other_name}

-- ---- one name in the text

module _ (s : List ℕ) (i : ℕ) (n : Names) where
  pub name_read : (o e : ℕ) (r : Result NamesRead Refusal) → Reads s i (Quoted o e) → (w : List ℕ) → w ≡ slice (o + 1) e s → Given w o (e + 1) n r → OneMore s i n r
  name_read o e r h w q g ws k = go r (g ws k)
    where
      token : (k : ℕ) → naming (suc k) ws (left s i) ≡ name_given ws o w (naming k (ws ++ (w ∷ [])) (left s (e + 1)))
      token k = ap (naming (suc k) ws) h.is ∙ ap (λ w. name_given ws o w (naming k (ws ++ (w ∷ [])) (left s (e + 1)))) (sym q)

      go : (r : Result NamesRead Refusal) → GivenAnswered w o (e + 1) ws r → MoreAnswered s i ws r
      go (Ok r) g = record {
        word = w;
        is = λ k. token k ∙ g.is (naming k (ws ++ (w ∷ [])) (left s (e + 1))) ∙ ap (λ d. naming k (ws ++ (w ∷ [])) (left s d)) (sym g.end);
        holds = g.holds;
        short = g.short;
        from = omega (arith, h.lies.from, h.lies.longer, g.end);
        to = omega (arith, h.lies.to, g.end);
        behind = let m : e ≡ r.end - 1 = omega (arith, g.end) in subst (λ n. blank (get_or s n 0) ≡ false) m (ap blank h.lies.last);
      }
      go (Err z) g = λ k. token k ∙ g (naming k (ws ++ (w ∷ [])) (left s (e + 1)))

-- ---- the names so far

-- the first j of k names, which n holds; e is directly behind the last token of them
pub record SoFar (s : List ℕ) (i k : ℕ) (n : Names) (e j : ℕ) : Type 0 where
  pub words : List (List ℕ)
  pub is : naming k [] (left s i) ≡ naming (k - j) words (left s e)
  pub holds : n ≡ held words
  pub count : length words ≡ j
  pub short : (i : ℕ) → length (get_or words i []) ≤ 16
  pub most : j ≤ k
  pub from : i ≤ e
  pub to : e ≤ length s
  pub behind : blank (get_or s (e - 1) 0) ≡ false

module _ (s : List ℕ) (i k : ℕ) (few : k ≤ 4) where
  pub so_far_none : i ≤ length s → blank (get_or s (i - 1) 0) ≡ false → (n : Names) → n ≡ held [] → SoFar s i k n i 0
  so_far_none h b n e =
      let m : k ≡ k - 0 = omega arith in
      record {
        words = [];
        is = ap (λ k. naming k [] (left s i)) m;
        holds = e;
        count = refl;
        short = λ i. omega arith;
        most = omega arith;
        from = omega arith;
        to = h;
        behind = b;
      }

  module _ (n : Names) (e j : ℕ) (h : SoFar s i k n e j) where
    pub so_far_done : k ≤ j → Read s i (naming k [] (left s i)) n e
    so_far_done l =
        let m : k - j ≡ 0 = omega arith in
        record { words = h.words; is = h.is ∙ ap (λ k. naming k h.words (left s e)) m; holds = h.holds; from = h.from; to = h.to; behind = h.behind }

    module _ (l : j < k) where
      so_far_holds : Holds h.words n
      so_far_holds = record { is = h.holds; few = omega (arith, h.count); short = h.short }

      pub so_far_roomy : Roomy n
      so_far_roomy = record {
        few = omega (arith, h.count, ap (λ m. m.count) h.holds);
        short = λ i. subst (λ m. get_or m.lengths i 0 ≤ 16) (sym h.holds) (go i (dec_lt i 4));
      }
        where
          go : (i : ℕ) → Dec (i < 4) → get_or (held h.words).lengths i 0 ≤ 16
          go i (yes g) = omega (arith, held_length h.words i g, h.short i)
          go i (no g) = omega (arith, get_or-eq_default (held h.words).lengths 0 {n = i} (omega (arith, held_lengths h.words)))

      one_of : k - j ≡ suc (k - (j + 1))
      one_of = omega arith

      pub so_far_refused : (z : Refusal) → OneMore s e n (Err z) → naming k [] (left s i) ≡ refuses z
      so_far_refused z g = h.is ∙ ap (λ k. naming k h.words (left s e)) one_of ∙ g h.words so_far_holds (k - (j + 1))

      pub so_far_more : (r : NamesRead) → OneMore s e n (Ok r) → SoFar s i k r.names r.end (j + 1)
      so_far_more r g =
          let m : More s e h.words r.names r.end = g h.words so_far_holds in
          record {
            words = h.words ++ (m.word ∷ []);
            is = h.is ∙ ap (λ k. naming k h.words (left s e)) one_of ∙ m.is (k - (j + 1));
            holds = m.holds;
            count = omega (arith, length-append h.words (m.word ∷ []), h.count);
            short = λ i. go i m.word m.short (ℕ_discrete i (length h.words));
            most = omega arith;
            from = omega (arith, h.from, m.from);
            to = m.to;
            behind = m.behind;
          }
        where
          go : (i : ℕ) (w : List ℕ) → length w ≤ 16 → Dec (i ≡ length h.words) → length (get_or (h.words ++ (w ∷ [])) i []) ≤ 16
          go i w l (yes e) = omega (arith, ap length (last_name h.words w i e))
          go i w l (no e) = omega (arith, ap length (other_name h.words w i e), h.short i)

-- ---- what stands behind `AP:`

module _ (s : List ℕ) (i : ℕ) where
  module _ (o k e : ℕ) (h : Reads s i (Number o k e)) where
    pub count_ends : blank (get_or s (e - 1) 0) ≡ false
    count_ends = digit_blank (get_or s (e - 1) 0) (h.lies.within (e - 1) (omega (arith, h.lies.longer)) (omega (arith, h.lies.longer)))

    pub count_over : 4 < k → ReadsNames s i (Err (Size o))
    count_over l g = ap (names_item g) h.is ∙ rw (lt-leb k 4 l)

    pub count_read : k ≤ 4 → (r : Result NamesRead Refusal) → Answers s e (naming k [] (left s e)) r → ReadsNames s i r
    count_read l r x g = go r x
      where
        counted : names_item g (left s i) ≡ then (naming k [] (left s e)) (names_read g)
        counted = ap (names_item g) h.is ∙ rw (le-leb k 4 l)

        go : (r : Result NamesRead Refusal) → Answers s e (naming k [] (left s e)) r → NamesAnswered s i g r
        go (Ok r) x = record {
          words = x.words;
          is = counted ∙ ap (λ y. then y (names_read g)) x.is;
          holds = x.holds;
          from = omega (arith, h.lies.from, h.lies.longer, x.from);
          to = x.to;
          behind = x.behind;
        }
        go (Err z) x = counted ∙ ap (λ y. then y (names_read g)) x
