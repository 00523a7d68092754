-- One piece more keeps what is promised of the text so far, and fewer bytes can come after it.
use mathlib.Core.Path.{◌≡◌, refl, sym, ap, ◌∙◌, subst, subst₂}
use mathlib.Core.Bool.{true, false, cond, true≢false, false≢true}
use mathlib.Core.List.{List, [], ◌∷◌, ◌++◌}
use Prim.Native.Nat.{ℕ, ◌+◌, ◌-◌, ◌≤◌, ◌<◌}
use native.Mathlib.Decide.{dec_lt}
use native.Mathlib.Omega.{arith}
use lib.IntN.{ℤ}
use Rattle.std.specs.Prelude.{Result, Ok, Err}
use lib.ListN.{length, length-append}
use Rattle.automaton.specs.declared.Automaton.{Automaton}
use Rattle.refusals.specs.declared.Refusal.{Refusal}
use Rattle.refusals.specs.Refused.{code_of}
use Rattle.automaton.specs.Value.{Valid}
use Rattle.clause_sizes.specs.declared.Target.{Target}
use Rattle.clause_sizes.specs.Targets.{Proper, last, kept}
use Rattle.solver_text.specs.declared.Reader.{Reader}
use Rattle.solver_text.specs.declared.Reply.{Reply}
use Rattle.solver_scan.specs.Scanning.{refused_at}
use Rattle.solver_text.specs.Machine.{fresh, told, run}
use Rattle.solver_text.specs.Calls.{InRange, Called, Reads, none, joined}
use Rattle.solver_scan.specs.Cases.{by}
use Rattle.solver_agreement.specs.Pieces.{pieces, fresh_range}
use Rattle.solver_agreement.specs.Range.{run_kept}
use Rattle.solver_agreement.specs.Further.{reads_more, joined_more}
use Rattle.console_places.specs.declared.Place.{Place}
use Rattle.console_places.specs.Places.{first, after, within, place_of}
use Rattle.console_answers.specs.declared.Heard.{Heard}
use Rattle.console_answers.specs.FromPieces.{early}
use Rattle.console_answers.specs.Bringing.{Brought, none as no_piece, brought_more, last_refused}
use Rattle.console_answers.specs.SoFar.{Hears, Goes, ends, goes, SoFar, Closed, more, heard_of}
use Rattle.console_answers.proofs.Offsets.{Counted, From, fresh_counted, run_counted, run_from}
use Rattle.console_answers.proofs.Places.{place_end, place_more, from_within}
use Rattle.console_answers.proofs.Replies.{accepted_refused, offset_refused, unrefused}

-- how many bytes can still come, at most
abbrev pub ahead : Heard → ℕ
ahead h = cond (more h.stage) (4294967296 - h.reader.scan.at) 0

module _ {a : Automaton} {τ : Target} where
  -- ---- a call, where 4 and 8 do not come

  module _ (v : Valid a) (z : Proper τ) {us : List (List ℕ)} {r : Reader} (k : Reads a τ fresh us r) where
    run_is : r ≡ run (last a τ) (kept a τ) fresh (joined us)
    run_is = pieces v z fresh_range k

    ranged : InRange r
    ranged = subst InRange (sym run_is) (run_kept (last a τ) (kept a τ) fresh (joined us) fresh_range)

    pub counted : Counted (joined us) r.scan
    counted = subst (λ (x : Reader). Counted (joined us) x.scan) (sym run_is) (run_counted (last a τ) (kept a τ) [] fresh (joined us) fresh_counted)

  -- ---- one piece more

  module _ {us : List (List ℕ)} {r : Reader} {p : Place} (k : Reads a τ fresh us r)
      (clean : Valid a → Proper τ → refused_at r.scan.place ≡ false) (placed : Valid a → Proper τ → p ≡ place_of (joined us) r.scan.at)
      (u : List ℕ) {e : Reply} (c : Called a τ r (told (run (last a τ) (kept a τ) r u)) e) where
    abbrev next : Reader
    next = run (last a τ) (kept a τ) r u

    -- the reply is that of the reading, unless it is a refusal of the call
    still_clean : e.answer ≡ Ok tt → ¬ ¬ (Valid a × Proper τ × (refused_at e.reader.scan.place ≡ false))
    still_clean f never =
        let clash : (x : Refusal) → e ≡ record { answer = Err x; reader = r } → ⊥ = λ x g. accepted_refused f (ap (λ y. y.answer) g) in
        clash _ (c.automaton (λ v. clash _ (c.state (λ i. clash _ (c.sizes v i (λ d. clash _ (c.acceptance v i d (λ o.
        let z : Proper τ = record { dimensioned = d; sets_owned = o } in
        let g : e ≡ told next = c.text v i z in
        never (v, z, ap (λ y. refused_at y.reader.scan.place) g ∙ unrefused _ _ (sym (ap (λ y. y.answer) g) ∙ f))))))))))

    module _ (v : Valid a) (z : Proper τ) where
      begins : p ≡ after first (joined us)
      begins = placed v z ∙ ap (place_of (joined us)) ((counted v z k).all (clean v z)) ∙ place_end (joined us)

      reply_is : e ≡ told next
      reply_is = c.text v (ranged v z k) z

      next_counted : Counted (joined us ++ u) next.scan
      next_counted = run_counted (last a τ) (kept a τ) (joined us) r u (counted v z k)

      -- a refused reading stays refused
      now_refused : {x : Refusal} → e.answer ≡ Err x → refused_at e.reader.scan.place ≡ true
      now_refused {x} f = ap (λ y. refused_at y.reader.scan.place) reply_is ∙ (offset_refused _ _ x (sym (ap (λ y. y.answer) reply_is) ∙ f)).0

      still_placed : (w : Result (Unit {0}) Refusal) → e.answer ≡ w → (heard_of p u w e.reader).place ≡ place_of (joined us ++ u) e.reader.scan.at
      still_placed (Ok _) f =
          let o : next.scan.at ≡ length (joined us ++ u) = next_counted.all (unrefused _ _ (sym (ap (λ y. y.answer) reply_is) ∙ f)) in
          ap (λ q. after q u) begins ∙ sym (place_more (joined us) u) ∙ sym (ap (place_of (joined us ++ u)) (ap (λ y. y.reader.scan.at) reply_is ∙ o))
      still_placed (Err x) f =
          let g = offset_refused _ _ x (sym (ap (λ y. y.answer) reply_is) ∙ f) in
          let o : From (joined us) next.scan.at = run_from (last a τ) (kept a τ) (joined us) r u (counted v z k) (clean v z) g.0 in
          let h : length (joined us) ≤ 4294967295 = omega (arith, (counted v z k).all (clean v z), (counted v z k).limit) in
          ap (λ q. within q u (code_of x).first) begins ∙ ap (within (after first (joined us)) u) g.1 ∙ from_within (joined us) u next.scan.at h o
          ∙ sym (ap (λ y. place_of (joined us ++ u) y.reader.scan.at) reply_is)

      still_counted : e.answer ≡ Ok tt → (e.reader.scan.at ≡ r.scan.at + length u) × (e.reader.scan.at ≤ 4294967295)
      still_counted f =
          let at : e.reader.scan.at ≡ next.scan.at = ap (λ y. y.reader.scan.at) reply_is in
          let o : next.scan.at ≡ length (joined us ++ u) = next_counted.all (unrefused _ _ (sym (ap (λ y. y.answer) reply_is) ∙ f)) in
          (omega (arith, at, o, length-append (joined us) u, (counted v z k).all (clean v z)), omega (arith, at, next_counted.limit))

    closed : {x : Refusal} → e.answer ≡ Err x → Closed a τ e.reader
    closed f v z = now_refused v z f

  heard_more : {us vs : List (List ℕ)} {r : Reader} {p : Place} {h : Heard} {answers : List ℤ} (u : List ℕ) → us ++ (u ∷ []) ≡ [] ∷ vs → Brought answers vs
      → Reads a τ fresh us r
      → (Valid a → Proper τ → refused_at r.scan.place ≡ false) → (Valid a → Proper τ → p ≡ place_of (joined us) r.scan.at)
      → Hears a τ r p u h → SoFar a τ h
  heard_more {us} {vs} {r} {p} {h} {answers} u first-empty b k clean placed c = subst (SoFar a τ) (sym c.is) (go c.reply.answer refl)
    where
      e : Reply
      e = c.reply

      go : (w : Result (Unit {0}) Refusal) → c.reply.answer ≡ w → SoFar a τ (heard_of p u w c.reply.reader)
      go (Ok _) f = record {
        pieces = us ++ (u ∷ []);
        brought_pieces = vs;
        empty_first = first-empty;
        answers = answers;
        brought = b;
        last = λ g. absurd (true≢false g);
        reads = reads_more u k c.called;
        accepted = λ _. still_clean k clean placed u c.called f;
        placed = λ v z. still_placed k clean placed u c.called v z (Ok tt) f ∙ ap (λ t. place_of t e.reader.scan.at) (sym (joined_more us u));
      }
      go (Err x) f = record {
        pieces = us ++ (u ∷ []);
        brought_pieces = vs;
        empty_first = first-empty;
        answers = answers;
        brought = b;
        last = λ _. record { answers = []; brings = early (closed k clean placed u c.called f) };
        reads = reads_more u k c.called;
        accepted = λ g. absurd (false≢true g);
        placed = λ v z. still_placed k clean placed u c.called v z (Err x) f ∙ ap (λ t. place_of t e.reader.scan.at) (sym (joined_more us u));
      }

  -- ---- an empty piece comes first, and then pieces that are not empty; fewer bytes can come with each

  pub heard_first : {r : Reader} {p : Place} {h : Heard} (u : List ℕ) → u ≡ [] → r ≡ fresh → p ≡ first → Hears a τ r p u h → SoFar a τ h
  unfolding refused_at
  heard_first {h = h} u nil e f c =
      heard_more {us = []} {vs = []} u (ap (λ v. v ∷ []) nil) no_piece none (λ _ _. refl) (λ _ _. refl) (subst₂ (λ r p. Hears a τ r p u h) e f c)

  module _ {h : Heard} (t : more h.stage ≡ true) (s : SoFar a τ h) where
    clean : Valid a → Proper τ → refused_at h.reader.scan.place ≡ false
    clean _ _ = by (refused_at h.reader.scan.place) (λ e. absurd (s.accepted t (λ (v, z, f). true≢false (sym e ∙ f)))) (λ e. e)

    pub heard_next : {k : Heard} → Goes a τ h k → SoFar a τ k
    heard_next (ends w n l e) = subst (SoFar a τ) (sym e) (record {
      pieces = s.pieces;
      brought_pieces = s.brought_pieces;
      empty_first = s.empty_first;
      answers = s.answers;
      brought = s.brought;
      last = λ _. last_refused (λ x. absurd x) l;
      reads = s.reads;
      accepted = λ g. absurd (false≢true (sym n ∙ g));
      placed = s.placed;
    })
    heard_next (goes u g l c) = heard_more u (ap (λ ps. ps ++ (u ∷ [])) s.empty_first) (brought_more u g l s.brought) s.reads clean s.placed c

    module _ (v : Valid a) (z : Proper τ) where
      ahead_is : ahead h ≡ 4294967296 - h.reader.scan.at
      ahead_is = ap (λ b. cond b (4294967296 - h.reader.scan.at) 0) t

      ahead_some : 0 < ahead h
      ahead_some = omega (arith, ahead_is, (counted v z s.reads).limit)

      reply_falls : (u : List ℕ) (e : Reply) → 0 < length u → Called a τ h.reader (told (run (last a τ) (kept a τ) h.reader u)) e
          → (w : Result (Unit {0}) Refusal) → e.answer ≡ w → ahead (heard_of h.place u w e.reader) < ahead h
      reply_falls u e g c (Ok _) f =
          let (o, l) = still_counted s.reads clean s.placed u c v z f in
          omega (arith, ahead_is, o, l)
      reply_falls u e g c (Err x) f = ahead_some

      falls : {k : Heard} → Goes a τ h k → ahead k < ahead h
      falls (ends w n l e) = subst (λ x. ahead x < ahead h) (sym e) (subst (λ b. cond b (4294967296 - h.reader.scan.at) 0 < ahead h) (sym n) ahead_some)
      falls (goes u g l c) = subst (λ x. ahead x < ahead h) (sym c.is) (reply_falls u c.reply g c.called c.reply.answer refl)

    pub ahead_falls : {k : Heard} → Goes a τ h k → ahead k < ahead h
    ahead_falls {k} g = go (dec_lt (ahead k) (ahead h))
      where
        go : Dec (ahead k < ahead h) → ahead k < ahead h
        go (yes l) = l
        go (no l) = absurd (s.accepted t (λ (v, z, f). l (falls v z g)))
