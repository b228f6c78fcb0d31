-- what a call appends
use Rattle.std.proofs.Common.{◌≡◌, ℕ, ◌+◌, ◌<◌, ◌≤◌, true, List, [], ◌∷◌, ◌++◌, length, refl, sym, ap, subst, ◌∙◌, inl, inr, arith}
use Rattle.std.specs.Prelude.{nat_le, nat_lt, ◌&&◌}
use Rattle.std.proofs.lemmas.Bool.Decides.{nat_tests}
use Rattle.std.proofs.lemmas.List.{append-nil, append_assoc}
use Rattle.vb_types.specs.declared.change.Change.{Change}
use Rattle.vb_types.specs.Histories.{Rises}
use Rattle.vb_calls.specs.declared.calls.VbAnswer.{VbAnswer}
use Rattle.vb_calls.specs.declared.calls.VbAnswer.TheVariants as answer
use Rattle.vb_calls.specs.declared.calls.VbCall.{VbCall}
use Rattle.vb_calls.specs.declared.calls.VbCall.TheVariants as call
use Rattle.vb_calls.specs.declared.calls.VbReply.{VbReply}
use Rattle.vb_calls.specs.Durable.{expired}
use Rattle.vb_calls.specs.Settling.{also_resolved, and_settled}
use Rattle.vb_calls.specs.State.{Plain, quiet_reply}
use Rattle.vbucket.specs.Laws.{Holds, HeldGrows}
use Rattle.vbucket.specs.Settles.{Count, Resolves}
use Rattle.vbucket.proofs.RowIs.{Appends, RowIs, StartIs, Expires, Prepares, Receives, Rolls, Settles, Streams, Tells, Trims, Turns, Writes, begins, loud_appends, restreams, row_is}
use Rattle.vbucket.proofs.Settling.{expires, settles}

abbrev Grows : Plain × VbReply → Plain → Type 0
Grows made vb = (made.0.base ≡ vb.base) × (made.0.held ≡ vb.held ++ made.1.changes) × Rises vb.position.at made.0.position.at made.1.changes

-- what is committed behind a call, and what a call gives up

rises_append : (a b c : ℕ) (xs ys : List Change) → Rises a b xs → Rises b c ys → Rises a c (xs ++ ys)
rises_append a b c [] ys r s = more a b c ys r s
  where
    more : (a b c : ℕ) (ys : List Change) → a ≤ b → Rises b c ys → Rises a c ys
    more a b c [] l r = omega arith
    more a b c (y ∷ ys) l r = (let k : b < y.seq = r.0 in omega arith, r.1)
rises_append a b c (x ∷ xs) ys r s = (r.0, rises_append x.seq b c xs ys r.1 s)

count_rises : (n m : ℕ) (cs : List Change) → Count n cs → m ≡ n + length cs → Rises n m cs
count_rises n m [] c e = omega arith
count_rises n m (x ∷ cs) c e = (let k : x.seq ≡ n + 1 = c.0 in omega arith, subst (λ k. Rises k m cs) (sym c.0) (count_rises (n + 1) m cs c.1 (omega arith)))

resolved_grows : (made : Plain × VbReply) (vb : Plain) (cs : List Change) → Resolves vb made.0 cs → made.1.changes ≡ cs → Grows made vb
resolved_grows made vb cs r e = (
  ap (λ (x : Plain). x.base) r.stays,
  r.held ∙ ap (λ xs. vb.held ++ xs) (sym e),
  subst (Rises vb.position.at made.0.position.at) (sym e) (count_rises vb.position.at made.0.position.at cs r.counts r.at),
)

then_grows : (made : Plain × VbReply) (vb : Plain) → Grows made vb → Grows (and_settled made) vb
then_grows made vb g =
    let k = settles made in
    let r = k.commits.2 in
    let cs = k.commits.0 in (
      ap (λ (x : Plain). x.base) r.stays ∙ g.0,
      r.held ∙ ap (λ h. h ++ cs) g.1 ∙ append_assoc vb.held made.1.changes cs ∙ ap (λ xs. vb.held ++ xs) (sym k.commits.3),
      subst (Rises vb.position.at (and_settled made).0.position.at) (sym k.commits.3)
          (rises_append vb.position.at made.0.position.at (and_settled made).0.position.at made.1.changes cs g.2 (count_rises made.0.position.at (and_settled made).0.position.at cs r.counts r.at)),
    )

above : (at seq se : ℕ) → (nat_lt at seq && nat_le seq se) ≡ true → at < seq
above at seq se e = grind (arith, nat_tests)

-- a call that does nothing appends nothing, also where it is a rollback or a trim
told : (vb : Plain) (c : VbCall) (said : VbAnswer) → Holds c vb (vb, quiet_reply said)
told vb (call.RollTo at image cas) said = (refl, inl refl)
told vb call.Trim said = (refl, inl refl)
told vb c said = (refl, sym (append-nil vb.held), omega arith)

appends : (vb : Plain) (c : VbCall) (made : Plain × VbReply) → Appends c → Grows made vb → Holds c vb made
appends vb (call.RollTo at image cas) made a g = absurd a
appends vb call.Trim made a g = absurd a
appends vb c made a g = g

start_grows : (vb : Plain) {c : VbCall} {start : Plain × VbReply} → StartIs vb c start → Grows start vb
start_grows vb (Prepares write clock wish free) = (refl, refl, (omega arith, omega arith))
start_grows vb (Expires clock on) =
    let g = (expires vb clock).gives in
    resolved_grows (also_resolved (quiet_reply answer.Done) (expired clock vb)) vb g.0 g.1 g.2
start_grows vb other = (refl, sym (append-nil vb.held), omega arith)

row_grows : (vb : Plain) {c : VbCall} {made : Plain × VbReply} → RowIs vb c made → Holds c vb made
row_grows vb (Tells c said) = told vb c said
row_grows vb (Streams c streams said is) = appends vb c _ (restreams vb is).1 (refl, sym (append-nil vb.held), omega arith)
row_grows vb (Writes write clock free) = (refl, refl, (omega arith, omega arith))
row_grows vb (Receives c a f next is) = (refl, refl, (above vb.position.at c.seq vb.position.se next, omega arith))
row_grows vb (Settles c start is) = appends vb c _ (loud_appends c (begins vb is).1) (then_grows start vb (start_grows vb is))
row_grows vb (Rolls at image cas f) = (refl, inr (refl, record { base = refl; held = refl; position = refl; log = refl; counted = refl; spans = refl; floor = refl; saved = refl; flushed = refl; stays = refl }))
row_grows vb Trims = (refl, inr (record { base = refl; held = refl; stays = refl }))
row_grows vb (Turns c new loud idle) = appends vb c _ (loud_appends c loud) (refl, sym (append-nil vb.held), omega arith)
row_grows vb other = (refl, sym (append-nil vb.held), omega arith)

pub grows : HeldGrows
grows vb call = row_grows vb (row_is vb call)
