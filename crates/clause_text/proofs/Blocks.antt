-- The lines of a block, one after another, and the lines of group 3 as lines of the file.
use mathlib.Core.Path.{◌≡◌, refl, sym, ap, ap₂, ◌∙◌, subst, subst₂}
use mathlib.Core.Bool.{Bool, true, false, ◌&&◌, ◌||◌, and-false}
use mathlib.Core.Logic.{◌≢◌}
use mathlib.Core.List.{List, [], ◌∷◌, ◌++◌, append-nil}
use Prim.Native.Nat.{ℕ, zero, suc, ◌+◌, ◌-◌, ◌*◌, ◌/◌, ◌^◌, ◌≤◌, ◌<◌}
use native.Mathlib.Decide.{ℕ_discrete}
use native.Mathlib.Nat.{mul-le-mul}
use native.Mathlib.Omega.{arith}
use borrow.Author.Tests.{ltb-false, leb-false}
use lib.Dec.{ltb, leb}
use lib.IntN.{ℤ}
use lib.ListN.{length, get_or, take, drop, length-append}
use lib.Seq.{take_at, drop_at}
use lib.Pow.{pow_pos, pow_mono}
use Rattle.meaning.specs.TestLaws.{and_true, or_false}
use Rattle.encoding.specs.Variables.{Task, path}
use Rattle.encoding.specs.Clauses.{each, only, ◌∪◌}
use Rattle.encoding.specs.Loops.{each_same, each_add}
use Rattle.encoding.specs.Positions.{positions, at_position}
use Rattle.decimal.specs.Wrote.{Wrote}
use Rattle.decimal.specs.Writing.{wrote_none, wrote_then, wrote_length}
use Rattle.clause_sizes.specs.declared.Sizes.{Sizes}
use Rattle.clause_sizes.specs.Sizes.{Fitting}
use Rattle.clause_sizes.specs.Limits.{reference_subsets_le}
use Rattle.clause_sizes.specs.Numbers.{kept_among, InFile, number_of, Numbered, NumberIfAny}
use Rattle.clause_variables.specs.Kept.{KeptIfAny}
use Rattle.clause_variables.specs.FirstPaths.{FirstPaths}
use Rattle.clause_variables.specs.PathLaws.{from_first}
use Rattle.clause_indices.specs.declared.Indices.{Indices}
use Rattle.clause_indices.specs.declared.extent.Extent.{Extent}
use Rattle.clause_list.specs.Tables.{task_of, Tables}
use Rattle.clause_indices.specs.Indices.{Within, path_at, extensions, extension_indices, ExtentOf}
use Rattle.clause_list.specs.Groups.{extension_of}
use Rattle.clause_list.specs.Digits.{extension_within}
use Rattle.clause_list.specs.Position.{extension_at, shared_at, extensions_at}
use Rattle.clause_list.specs.Rows.{kept_path}
use Rattle.clause_list.specs.Gaps.{Failing}
use Rattle.clause_list.specs.Stretches.{stretch_is, marking_width, no_row_lem, no_step}
use Rattle.clause_list.specs.Standing.{at_extension}
use Rattle.clause_list.specs.Next.{clauses_from}
use Rattle.clause_list.specs.Following.{next_here}
use Rattle.clause_words.specs.Text.{spaced_text, line_text, lines_text}
use Rattle.clause_words.specs.Pieces.{closing, line_pieces}
use Rattle.clause_order.specs.Follows.{Follows}
use Rattle.clause_order.specs.declared.passing.Place.{Place}
use Rattle.clause_order.specs.Passes.{Passes, transition_width, state_width}
use Rattle.clause_line.specs.LineLength.{found_line_le}
use Rattle.clause_text.specs.Filling.{Lines}
use Rattle.clause_text.specs.NextLine.{Further}
use Rattle.clause_text.specs.declared.keeping.Stores.{Stores}
use Rattle.clause_text.specs.Blocks.{signed, middle_of, line_of, head_number, last_number, Firsts, Texts, ExtensionsShort, Extensions}
use Rattle.clause_text.specs.LinesOut.{lines_append}

-- ---- a line in three pieces

module _ (z : Sizes) (x : Indices) (head last : ℕ) where
  abbrev pub first_text : List ℕ
  first_text = spaced_text (signed true head ∷ [])

  abbrev pub middle_text : List ℕ
  middle_text = spaced_text (middle_of z x.p.0 x.t.0 x.l x.k)

  abbrev pub last_text : List ℕ
  last_text = spaced_text (signed false last ∷ [])

  line_is : first_text ++ (middle_text ++ (last_text ++ closing)) ≡ line_text (line_of z x head last)
  line_is = line_pieces (signed true head) (middle_of z x.p.0 x.t.0 x.l x.k) (signed false last)

  pub pieces_length : length (line_text (line_of z x head last)) ≡ length first_text + (length middle_text + (length last_text + 2))
  pieces_length = ap length (sym line_is) ∙ simp length-append

  pub line_written : {d e f g h : List ℕ} {at a b c end : ℕ} → Wrote d at first_text e a → Wrote e a middle_text f b → Wrote f b last_text g c → Wrote g c closing h end
      → Wrote d at (line_text (line_of z x head last)) h end
  line_written {d} {h} {at} {end} i j k l = subst (λ t. Wrote d at t h end) line_is (wrote_then i (wrote_then j (wrote_then k l)))

  -- after its last number there is room for what closes it
  pub line_room : {d e f g : List ℕ} {at a b c : ℕ} → Wrote d at first_text e a → Wrote e a middle_text f b → Wrote f b last_text g c
      → length (line_text (line_of z x head last)) ≤ 80 → at + 80 ≤ length d → (length g ≡ length d) × (c + 2 ≤ length g)
  line_room {d} {g = g} i j k short room =
      let same : length g ≡ length d = wrote_length k ∙ wrote_length j ∙ wrote_length i in
      (same, omega (arith, same, pieces_length, i.next, j.next, k.next, short, room))

-- ---- the numbers of the paths

-- that of a path after the first one
module _ {z : Sizes} (f : Fitting z) {I J : ℕ} (hI : I < 2 ^ z.candidate.sets) (hJ : J < 2 ^ z.reference.sets) where
  pub after_le : (I * z.reference.subsets ≤ 256) × (I * z.reference.subsets + J ≤ 256)
  after_le =
      let m : 2 ^ z.candidate.sets ≤ 16 = pow_mono {j = 4} f.m_le in
      let most : suc I * z.reference.subsets ≤ 256 = mul-le-mul {n₂ = 16} (omega (arith, hI, m)) (reference_subsets_le f) in
      (omega (arith, most), omega (arith, most, hJ, f.reference_subsets))

  pub number_le : (k : ℕ) → k ≤ 4_199_424 → k + (I * z.reference.subsets + J) ≤ 9_999_999
  number_le k h = omega (arith, after_le.1)

-- those of the first paths from q and u to p tell whether u has paths to v
module _ {z : Sizes} {destinations marks : List ℕ} (tables : Tables z destinations marks) {q u p v : ℕ} (hq : q < z.candidate.states) (hu : u < z.reference.states)
    (hp : p < z.candidate.states) (hv : v < z.reference.states) {numbers : List ℕ} (f : FirstPaths z q u p numbers) where
  number_is : NumberIfAny z (path q u p v 0 0) (get_or numbers v 0)
  number_is = f.each v (omega (arith, tables.fits.r_le))

  pub first_absent : get_or numbers v 0 ≡ 0 → kept_among z u v ≡ false
  first_absent e = go (kept_among z u v) refl
    where
      go : (b : Bool) → kept_among z u v ≡ b → kept_among z u v ≡ false
      go true k =
          let there = kept_path tables hq hu hp hv (pow_pos z.candidate.sets) (pow_pos z.reference.sets) k in
          absurd (omega (arith, e, (number_is.there tables.fits there).some))
      go false k = k

  pub first_there : {k : ℕ} → k ≡ get_or numbers v 0 → k ≢ 0 → (kept_among z u v ≡ true) × Numbered z (path q u p v 0 0) k
  first_there e n =
      let (fits, there) = number_is.found (omega (arith, e, n)) in
      (there.0.6, subst (Numbered z (path q u p v 0 0)) (sym e) (number_is.there fits there))

-- ---- lines of positions one after another

-- positions without a clause
each_absent : (z : Sizes) (destinations marks : List ℕ) (c x : ℕ) → ((i : ℕ) → x ≤ i → i < x + c → shared_at z destinations i ≡ false)
    → each c (λ o. extensions_at z destinations marks (x + o)) ≡ []
unfolding each only
each_absent z destinations marks zero x e = refl
each_absent z destinations marks (suc c) x e =
    ap₂ ◌++◌ (each_absent z destinations marks c x (λ i h l. e i h (omega arith)))
    (ap (λ b. only b (extension_at z destinations marks (x + c))) (e (x + c) (omega arith) (omega arith)))

module _ {z : Sizes} {destinations marks : List ℕ} where
  pub extensions_none : (x : ℕ) (d : List ℕ) (at : ℕ) → x ≤ extensions z → at ≤ length d → Extensions z destinations marks x d at d at x
  unfolding each
  extensions_none x d at h l = record { count = 0; within = omega arith; text = wrote_none d at l; next = omega arith }

  pub extensions_absent : (x y : ℕ) (d : List ℕ) (at : ℕ) → x ≤ y → y ≤ extensions z → at ≤ length d → ((i : ℕ) → x ≤ i → i < y → shared_at z destinations i ≡ false)
      → Extensions z destinations marks x d at d at y
  extensions_absent x y d at h to l e = record {
    count = y - x;
    within = omega arith;
    text = subst (λ cs. Wrote d at (lines_text cs) d at) (sym (each_absent z destinations marks (y - x) x (λ i g u. e i g (omega arith)))) (wrote_none d at l);
    next = omega arith;
  }

  module _ {x : ℕ} {d : List ℕ} {at : ℕ} {e : List ℕ} {k y : ℕ} (s : Extensions z destinations marks x d at e k y) where
    pub extensions_then : {f : List ℕ} {j v : ℕ} → Extensions z destinations marks y e k f j v → Extensions z destinations marks x d at f j v
    extensions_then {f} {j} {v} t =
        let clauses : ℕ → List (List ℤ) = λ o. extensions_at z destinations marks (x + o) in
        record {
          count = s.count + t.count;
          within = omega (arith, s.next, t.within);
          text = subst (λ l. Wrote d at l f j)
              (ap (λ cs. lines_text (each s.count clauses) ++ lines_text cs)
              (each_same t.count _ (λ o. clauses (s.count + o)) (λ o h. ap (extensions_at z destinations marks) (omega (arith, s.next))))
              ∙ sym (lines_append (each s.count clauses) (each t.count (λ o. clauses (s.count + o)))) ∙ ap lines_text (sym (each_add s.count t.count clauses)))
              (wrote_then s.text t.text);
          next = omega (arith, s.next, t.next);
        }

    -- where something is written, positions were passed
    pub extensions_moved : at < k → x < y
    unfolding each
    extensions_moved h = go s.count refl
      where
        go : (c : ℕ) → s.count ≡ c → x < y
        go zero e = absurd (omega (arith, s.text.next, ap (λ c. length (lines_text (each c (λ o. extensions_at z destinations marks (x + o))))) e))
        go (suc c) e = omega (arith, s.next)

-- ---- the loop over the lines of a block

-- the lines on to a position are written, x has that position's indices as long as the block goes on, the first paths are those of x, and texts are kept
pub record AtBlock (z : Sizes) (shorter longer destinations marks : List ℕ) (from : ℕ) (d : List ℕ) (at : ℕ) (e : List ℕ) (stores : Stores) (x : Indices) (position to : ℕ) : Type 0 where
  pub lines : Extensions z destinations marks from d at e to position
  pub here : x.v.0 < z.reference.states → (position < extensions z) × (x ≡ extension_indices z position)
  pub some : z.reference.states ≤ x.v.0 → from < position
  pub to_p : FirstPaths z x.q.0 x.u.0 x.p.0 shorter
  pub to_t : FirstPaths z x.q.0 x.u.0 x.t.0 longer
  pub texts : Texts z stores

module _ {z : Sizes} {destinations marks : List ℕ} (tables : Tables z destinations marks) {position : ℕ} {x : Indices} (h : position < extensions z) (is : x ≡ extension_indices z position) where
  pub indices_within : Within z x
  indices_within = subst (Within z) (sym is) (extension_within z position h)

  pub indices_lt : (x.v.0 < 16) × (x.l < 16)
  indices_lt = (omega (arith, indices_within.v_lt, tables.fits.r_le), omega (arith, indices_within.l_lt, tables.fits.letters_le))

  -- which paths there are
  shared_is : {w : ℕ} → w ≡ get_or destinations (x.v.0 * 16 + x.l) 0 → shared_at z destinations position ≡ (kept_among z x.u.0 x.v.0 && kept_among z x.u.0 w)
  shared_is w-is =
      sym (ap (λ t. kept_among z x.u.0 x.v.0 && kept_among z x.u.0 t) w-is
      ∙ ap (λ (y : Indices). kept_among z y.u.0 y.v.0 && kept_among z y.u.0 (get_or destinations (y.v.0 * 16 + y.l) 0)) is)

  kept_in : (v : ℕ) → KeptIfAny z x.u.0 v (kept_among z x.u.0 v)
  kept_in v = record { there = λ _. refl; none = λ l. absurd (omega (arith, indices_within.u_lt, tables.fits.r_le)) }

  module _ {w F : ℕ} (w-is : w ≡ get_or destinations (x.v.0 * 16 + x.l) 0) (F-is : F ≡ get_or marks (x.v.0 * 16 + x.l) 0) where
    clause_is : extension_of z x w F ≡ extension_at z destinations marks position
    clause_is =
        ap₂ (extension_of z x) w-is F-is
        ∙ ap (λ y. extension_of z y (get_or destinations (y.v.0 * 16 + y.l) 0) (get_or marks (y.v.0 * 16 + y.l) 0)) is

    pub step_lt : (w < z.reference.states) × (F < 2 ^ z.reference.sets)
    step_lt = (rw w-is (tables.step_lt _ _ indices_within.v_lt indices_within.l_lt), rw F-is (tables.marks_lt _ _ indices_within.v_lt indices_within.l_lt))

    -- the first paths to v and to w are there
    module _ {shorter longer : List ℕ} {head last : ℕ} (to_p : FirstPaths z x.q.0 x.u.0 x.p.0 shorter) (to_t : FirstPaths z x.q.0 x.u.0 x.t.0 longer)
        (head-is : head ≡ get_or shorter x.v.0 0) (last-is : last ≡ get_or longer w 0) (some-head : head ≢ 0) (some-last : last ≢ 0) where
      first : (kept_among z x.u.0 x.v.0 ≡ true) × Numbered z (path x.q.0 x.u.0 x.p.0 x.v.0 0 0) head
      first = let i = indices_within in first_there tables i.q_lt i.u_lt i.p_lt i.v_lt to_p head-is some-head

      second : (kept_among z x.u.0 w ≡ true) × Numbered z (path x.q.0 x.u.0 x.t.0 w 0 0) last
      second = let i = indices_within in first_there tables i.q_lt i.u_lt i.t_lt step_lt.0 to_t last-is some-last

      shared : shared_at z destinations position ≡ true
      shared = shared_is w-is ∙ and_true first.0 second.0

      pub path_there : InFile z (path_at x)
      path_there = let i = indices_within in kept_path tables i.q_lt i.u_lt i.p_lt i.v_lt i.i_lt i.j_lt first.0

      pub firsts : Firsts z head last F
      firsts = record { head_some = first.1.some; head_le = first.1.small; last_some = second.1.some; last_le = second.1.small; marks_lt = step_lt.1 }

      line_of_lem : line_of z x (head_number z x head) (last_number z x last F) ≡ extension_at z destinations marks position
      line_of_lem =
          let rest : ℕ → ℕ → ℕ = λ I J. I * z.reference.subsets + J in
          ap₂ (line_of z x)
          (ap (λ k. k + rest x.i x.j) first.1.is ∙ sym (from_first tables.fits x.q.0 x.u.0 x.p.0 x.v.0 x.i x.j))
          (ap (λ k. k + rest (x.i ∪ x.k) (x.j ∪ F)) second.1.is ∙ sym (from_first tables.fits x.q.0 x.u.0 x.t.0 w (x.i ∪ x.k) (x.j ∪ F)))
          ∙ clause_is

      pub line_short : ExtensionsShort z destinations marks → length (line_text (line_of z x (head_number z x head) (last_number z x last F))) ≤ 80
      line_short short = subst (λ c. length (line_text c) ≤ 80) (sym line_of_lem) (short position h shared)

      one_line : {d e : List ℕ} {at k : ℕ} → Wrote d at (line_text (line_of z x (head_number z x head) (last_number z x last F))) e k
          → Extensions z destinations marks position d at e k (position + 1)
      unfolding each only
      one_line {d} {e} {at} {k} v =
          let here : position ≡ position + 0 = omega arith in
          record {
            count = 1;
            within = omega arith;
            text = subst (λ cs. Wrote d at (lines_text cs) e k)
                (sym (ap (λ b. only b (extension_at z destinations marks position)) shared) ∙ ap (extensions_at z destinations marks) here)
                (subst (λ t. Wrote d at t e k) (ap line_text line_of_lem ∙ sym (append-nil _)) v);
            next = refl;
          }

      pub line_more : {from : ℕ} {d : List ℕ} {at : ℕ} {e f : List ℕ} {stores : Stores} {to r : ℕ} {y : Indices}
          → Extensions z destinations marks from d at e to position → Wrote e to (line_text (line_of z x (head_number z x head) (last_number z x last F))) f r → Follows z x y
          → Texts z stores
          → AtBlock z shorter longer destinations marks from d at f stores y (position + 1) r
      line_more s v g t = record {
        lines = extensions_then s (one_line v);
        here = λ l. g.next tables.fits position h is l;
        some = λ l. omega (arith, s.next);
        to_p = rw (g.same_q, g.same_u, g.same_p) to_p;
        to_t = rw (g.same_q, g.same_u, g.same_t) to_t;
        texts = t;
      }

  -- ---- a stretch without a clause

  -- all positions of the stretch of this one, from it on
  absent_from : (W : ℕ) {j : ℕ} → Failing (extensions z) (shared_at z destinations) position W → shared_at z destinations position ≡ false → j ≡ (position / W + 1) * W
      → (i : ℕ) → position ≤ i → i < j → shared_at z destinations i ≡ false
  absent_from W {j} f no-clause e i le lt = go (ℕ_discrete i position)
    where
      go : Dec (i ≡ position) → shared_at z destinations i ≡ false
      go (yes p) = ap (shared_at z destinations) p ∙ no-clause
      go (no p) = f.fails i (omega arith) ((stretch_is position W f.some).same i le (omega arith))

  pub skip_more : (W : ℕ) {shorter longer : List ℕ} {from : ℕ} {d : List ℕ} {at : ℕ} {e : List ℕ} {stores : Stores} {to : ℕ} {y : Place}
      → Failing (extensions z) (shared_at z destinations) position W → shared_at z destinations position ≡ false
      → AtBlock z shorter longer destinations marks from d at e stores x position to → Passes z W x position y
      → AtBlock z shorter longer destinations marks from d at e stores y.indices y.position to
  skip_more W {e} {to} {y} f no-clause B g =
      let (j_is, j-le, on) = g.next tables.fits h is in
      let past = (stretch_is position W f.some).past in
      let l = B.lines in
      record {
        lines = extensions_then l (extensions_absent position y.position e to (omega arith) j-le (omega (arith, l.text.room, wrote_length l.text)) (absent_from W f no-clause j_is));
        here = on;
        some = λ _. omega (arith, l.next);
        to_p = rw (g.same_q, g.same_u, g.same_p) B.to_p;
        to_t = rw (g.same_q, g.same_u, g.same_t) B.to_t;
        texts = B.texts;
      }

  pub skip_less : (W : ℕ) {y : Place} → Failing (extensions z) (shared_at z destinations) position W → Passes z W x position y → (position < y.position) × (y.position ≤ extensions z)
  skip_less W f g =
      let (j_is, j-le, on) = g.next tables.fits h is in
      (omega (arith, j_is, (stretch_is position W f.some).past), j-le)

  -- u has no paths to v, or none to the step from v by l
  pub state_failing : {shorter : List ℕ} {head : ℕ} → FirstPaths z x.q.0 x.u.0 x.p.0 shorter → head ≡ get_or shorter x.v.0 0 → head ≡ 0
      → Failing (extensions z) (shared_at z destinations) position (state_width z) × (shared_at z destinations position ≡ false)
  state_failing to_p e none =
      let f = tables.fits in
      let i = indices_within in
      let n = first_absent tables i.q_lt i.u_lt i.p_lt i.v_lt to_p (sym e ∙ none) in (
        subst (Failing (extensions z) (shared_at z destinations) position) (ap (λ w. w * z.letters) (marking_width f)) (no_row_lem f destinations is (kept_in x.v.0) i n),
        shared_is refl ∙ ap (λ t. t && kept_among z x.u.0 (get_or destinations (x.v.0 * 16 + x.l) 0)) n,
      )

  pub letter_failing : {w : ℕ} {longer : List ℕ} {last : ℕ} → w ≡ get_or destinations (x.v.0 * 16 + x.l) 0 → FirstPaths z x.q.0 x.u.0 x.t.0 longer → last ≡ get_or longer w 0
      → last ≡ 0 → Failing (extensions z) (shared_at z destinations) position (transition_width z) × (shared_at z destinations position ≡ false)
  letter_failing {w} d to_t e none =
      let f = tables.fits in
      let i = indices_within in
      let w_lt : w < z.reference.states = rw d (tables.step_lt _ _ i.v_lt i.l_lt) in
      let n = first_absent tables i.q_lt i.u_lt i.t_lt w_lt to_t (sym e ∙ none) in (
        subst (Failing (extensions z) (shared_at z destinations) position) (marking_width f) (no_step f destinations is (kept_in w) d i n),
        shared_is d ∙ ap (λ t. kept_among z x.u.0 x.v.0 && t) n ∙ and-false (kept_among z x.u.0 x.v.0),
      )

-- ---- the lines of group 3 are lines of the file

-- the test that fails where x is a position of group 3, and a line has room
pub in_group : (room x before third : ℕ) → (ltb room 80 || ltb x before || leb (before + third) x) ≡ false → (80 ≤ room) × (before ≤ x) × (x < before + third)
in_group room x before third e =
    let (p, q) = or_false (ltb room 80 || ltb x before) (leb (before + third) x) e in
    let (l, g) = or_false (ltb room 80) (ltb x before) p in
    (ltb-false room 80 l, ltb-false x before g, leb-false (before + third) x q)

module _ (z : Sizes) (start : ℕ) (destinations marks : List ℕ) {g : Extent} (tables : Tables z destinations marks) (k : ExtentOf z g) where
  abbrev T : Task
  T = task_of z start destinations marks

  abbrev before : ℕ
  before = g.first + g.second

  extension_stands : (y : ℕ) → y < extensions z → at_position T (number_of z) (before + y) ≡ extensions_at z destinations marks y
  extension_stands y h =
      at_extension z start destinations marks tables k {x = before + y} {y = g.second + y} {t = y} (omega arith) (omega arith) (omega arith) (omega arith) (omega (arith, k.third_is))

  pub extensions_short : start < z.reference.states → ExtensionsShort z destinations marks
  unfolding only
  extensions_short h y l shared =
      found_line_le z start destinations marks tables h (before + y)
      (next_here T (number_of z) (before + y) (omega (arith, k.first_is, k.second_is)) (extension_stands y l ∙ ap (λ b. only b (extension_at z destinations marks y)) shared))

  module _ {y : ℕ} {d : List ℕ} {at : ℕ} {e : List ℕ} {j v : ℕ} (s : Extensions z destinations marks y d at e j v) where
    clauses_here : clauses_from T (number_of z) (before + y) ≡ each s.count (λ o. extensions_at z destinations marks (y + o)) ++ clauses_from T (number_of z) (before + v)
    unfolding clauses_from
    clauses_here =
        let all = positions T (number_of z) in
        let at : ℕ → List (List ℤ) = at_position T (number_of z) in
        let size : all - (before + y) ≡ s.count + (all - (before + v)) = omega (arith, s.next, s.within, k.first_is, k.second_is) in
        ap (λ n. each n (λ i. at (before + y + i))) size
        ∙ each_add s.count (all - (before + v)) (λ i. at (before + y + i))
        ∙ ap₂ ◌++◌
        (each_same s.count _ _ (λ o h. ap at (omega arith) ∙ extension_stands (y + o) (omega (arith, s.within))))
        (each_same (all - (before + v)) _ _ (λ o h. ap at (omega (arith, s.next))))

    pub extensions_lines : Lines T (number_of z) (before + y) d at e j (before + v)
    extensions_lines =
        let cs = each s.count (λ o. extensions_at z destinations marks (y + o)) in
        let rest = clauses_from T (number_of z) (before + v) in
        record {
          count = length cs;
          there = omega (arith, ap length clauses_here, length-append cs rest);
          text = subst (λ t. Wrote d at (lines_text t) e j) (sym (ap (take (length cs)) clauses_here ∙ take_at cs rest (length cs) refl)) s.text;
          next = sym (ap (drop (length cs)) clauses_here ∙ drop_at cs rest (length cs) refl);
          within = λ bound h l. omega (arith, s.next, s.within, k.first_is, k.second_is);
        }

    pub extensions_further : (x w : ℕ) → x ≡ before + y → w ≡ before + v → y < v → Further T (number_of z) x d at e j w
    extensions_further x w p q h =
        subst₂ (λ x w. Further T (number_of z) x d at e j w) (sym p) (sym q)
        (record { lines = extensions_lines; onward = omega arith; still = λ n. absurd (omega arith); stop = λ n m. absurd (omega arith) })
