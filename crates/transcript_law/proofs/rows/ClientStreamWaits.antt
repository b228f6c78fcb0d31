-- pulls of clients' streams that wait, judged by hand
use Rattle.std.proofs.Common.{List, [], ap, arith, inl, inr, refl, subst, sym, true, false, ℕ, ⊎_elim, ◌⊎◌, ◌∙◌, ◌∷◌, ◌≡◌, ◌<◌}
use Rattle.std.specs.Prelude.{Bool, Option, Some, None, ◌==◌, if◌then◌else◌}
use Rattle.std.proofs.lemmas.Bool.{eqb-true}
unfoldable use Rattle.mcbp_frame.specs.Cutting.{frames_in}
unfoldable use Rattle.mcbp_frame.specs.Frames.{first_frame}
use Rattle.vb_events.specs.declared.event.Answer.TheVariants as answer
use Rattle.vb_events.specs.declared.event.Why.TheVariants as why
use Rattle.vb_types.specs.declared.change.Change.{Change}
use Rattle.transcript_law.specs.ClientAskRows.{LawfulWaits, moved, none, pulls, saved_to, serving}
use Rattle.transcript_law.specs.ClientStreamRows.{all_changes, both as and_another, finished, first_item, fresh, inside, next_item, one, put_three, put_two, snapshot, three, two, up_to, with_streams}
use Rattle.transcript_law.specs.ClientStreams.{ClientStream, ItemLine}
use Rattle.transcript_law.specs.{LawfulClients.{AllRest, IsQuiet, NoneWithin, OneWaits, WaitsSaved}, LinesTold.{Chronicle, at_line}}
use Rattle.transcript_law.specs.StreamLaws.{EndsThere}
use Rattle.transcript_law.proofs.rows.ClientStreams.{none_counted}
use Rattle.transcript_law.proofs.rows.Silent.{here_answered, none_of, unbroken_of}
use Rattle.transcript_law.proofs.verbs.Handing.{hands_plain}

-- what was read before the pull
abbrev read : ℕ → List Change → (ℕ → Option ClientStream) → Chronicle
read seq changes streams = at_line (saved_to seq (serving changes (with_streams streams))) 1

-- a pull that waits is lawful where each stream rests and one waits
waits_by : (seq : ℕ) (changes : List Change) (streams : ℕ → Option ClientStream) → AllRest (read seq changes streams) 0 (with_streams streams) → OneWaits (read seq changes streams) 0 (with_streams streams) → LawfulWaits seq changes streams
waits_by seq changes streams rest one = (
  (
    tt,
    (refl, record { told = refl; most = omega arith; all = λ e. cc; only = λ e. absurd (omega (arith, e)) }),
    refl,
    refl,
    (λ w no standing. cc),
    hands_plain _ _ _ _ refl refl,
    refl,
    (rest, one, none_counted (with_streams streams) refl refl),
    here_answered (saved_to seq (serving changes (with_streams streams))) pulls [] (answer.Pulled 0 why.WaitSaved) (λ n c e. rw e refl) (none_of (with_streams streams).asking refl) (unbroken_of (with_streams streams).asking refl),
    tt,
    tt,
    (tt, tt),
  ),
  tt,
)

-- a stream that begins waits where anything counts as saved
waits_here : (seq : ℕ) (changes : List Change) (streams : ℕ → Option ClientStream) → 0 < seq → WaitsSaved (read seq changes streams) 0 0 (fresh true all_changes)
waits_here seq changes streams some = record { whole = tt; stays = refl; goes_on = λ r. r; active = refl; saved = some }

pub waits : LawfulWaits 2 two (one (fresh true all_changes))
unfolding frames_in first_frame
waits = waits_by 2 two (one (fresh true all_changes)) (λ v g is opens still. inr (by v g (v == 0) refl is))
    (record { vb = 0; stream = fresh true all_changes; known_as = refl; opens = refl; unclosed = refl; waits = waits_here 2 two (one (fresh true all_changes)) (omega arith) })
  where
    by : (v : ℕ) (g : ClientStream) (b : Bool) → (v == 0) ≡ b → (if v == 0 then Some (fresh true all_changes) else None) ≡ Some g → WaitsSaved (read 2 two (one (fresh true all_changes))) 0 v g
    by v g true at is =
        let there : (if true then Some (fresh true all_changes) else None) ≡ Some g = ap (λ (c : Bool). if c then Some (fresh true all_changes) else None) (sym at) ∙ is in let same : fresh true all_changes ≡ g = cc in
        let zero : v ≡ 0 = eqb-true v 0 at in
        subst (λ w. WaitsSaved (read 2 two (one (fresh true all_changes))) 0 w g) (sym zero) (subst (WaitsSaved (read 2 two (one (fresh true all_changes))) 0 0) same (waits_here 2 two (one (fresh true all_changes)) (omega arith)))
    by v g false at is = let none : None ≡ Some g = ap (λ (c : Bool). if c then Some (fresh true all_changes) else None) (sym at) ∙ is in cc

-- ---- pulls that do not wait

-- a stream that waits is the one that there is
waiting_one : (seq : ℕ) (changes : List Change) (g : ClientStream) → LawfulWaits seq changes (one g) → WaitsSaved (read seq changes (one g)) 0 0 g × (g.over ≡ false)
waiting_one seq changes g l = by l.0.7.1
  where
    by : OneWaits (read seq changes (one g)) 0 (with_streams (one g)) → WaitsSaved (read seq changes (one g)) 0 0 g × (g.over ≡ false)
    by o = at (o.vb == 0) refl o.known_as
      where
        at : (b : Bool) → (o.vb == 0) ≡ b → (if o.vb == 0 then Some g else None) ≡ Some o.stream → WaitsSaved (read seq changes (one g)) 0 0 g × (g.over ≡ false)
        at true e is =
            let there : (if true then Some g else None) ≡ Some o.stream = ap (λ (c : Bool). if c then Some g else None) (sym e) ∙ is in let same : g ≡ o.stream = cc in
            let zero : o.vb ≡ 0 = eqb-true o.vb 0 e in
            (subst (WaitsSaved (read seq changes (one g)) 0 0) (sym same) (subst (λ w. WaitsSaved (read seq changes (one g)) 0 w o.stream) zero o.waits), ap (λ (h : ClientStream). h.over) same ∙ o.opens)
        at false e is = let z : None ≡ Some o.stream = ap (λ (c : Bool). if c then Some g else None) (sym e) ∙ is in cc

pub unsaved : LawfulWaits 0 two (one (fresh true all_changes)) → ⊥
unsaved l = let s : 0 < 0 = (waiting_one 0 two (fresh true all_changes) l).0.saved in omega (arith, s)

abbrev whole_put : ClientStream
whole_put = inside true all_changes two 0 2 (first_item ∷ next_item ∷ [])

pub all_put : LawfulWaits 2 two (one whole_put) → ⊥
all_put l = let s : 2 < 2 = (waiting_one 2 two whole_put l).0.saved in omega (arith, s)

-- the first item of two is not the last one
not_there : (shown : List Change) → EndsThere (snapshot shown 0 2 (first_item ∷ [])) → ⊥
not_there shown ([], item, is, ends) = let own : first_item ≡ item = cc in let e : ◌≡◌ {A = ℕ} 1 2 = ap (λ (i : ItemLine). i.seq) own ∙ ends in omega (arith, e)
not_there shown (x ∷ [], item, is, ends) = cc
not_there shown (x ∷ y ∷ more, item, is, ends) = cc

pub part : LawfulWaits 3 three (one (inside true all_changes three 0 2 (first_item ∷ []))) → ⊥
part l = not_there three (waiting_one 3 three (inside true all_changes three 0 2 (first_item ∷ [])) l).0.whole

pub due : LawfulWaits 3 three (one (put_three (up_to 2))) → ⊥
due l = (waiting_one 3 three (put_three (up_to 2)) l).0.goes_on (omega arith)

pub turns : LawfulWaits 3 three (one (moved put_two)) → ⊥
turns l = let e : true ≡ false = (waiting_one 3 three (moved put_two) l).0.stays in cc

pub over : LawfulWaits 2 two (one (finished (fresh true all_changes))) → ⊥
over l = let e : true ≡ false = (waiting_one 2 two (finished (fresh true all_changes)) l).1 in cc

pub none_there : LawfulWaits 2 two none → ⊥
none_there l = let o = l.0.7.1 in let e : None ≡ Some o.stream = o.known_as in cc

-- ---- another stream

other_rests : (h : ClientStream) → IsQuiet (read 2 two (and_another (fresh true all_changes) h)) 0 1 h → AllRest (read 2 two (and_another (fresh true all_changes) h)) 0 (with_streams (and_another (fresh true all_changes) h))
other_rests h quiet v g is opens still = by v (v == 0) (v == 1) refl refl is
  where
    by : (v : ℕ) (a b : Bool) → (v == 0) ≡ a → (v == 1) ≡ b → (if v == 0 then Some (fresh true all_changes) else if v == 1 then Some h else None) ≡ Some g → IsQuiet (read 2 two (and_another (fresh true all_changes) h)) 0 v g ⊎ WaitsSaved (read 2 two (and_another (fresh true all_changes) h)) 0 v g
    by v true b e f is =
        let there : (if true then Some (fresh true all_changes) else if v == 1 then Some h else None) ≡ Some g = ap (λ (c : Bool). if c then Some (fresh true all_changes) else if v == 1 then Some h else None) (sym e) ∙ is in
        let same : fresh true all_changes ≡ g = cc in let zero : v ≡ 0 = eqb-true v 0 e in
        inr (subst (λ w. WaitsSaved (read 2 two (and_another (fresh true all_changes) h)) 0 w g) (sym zero) (subst (WaitsSaved (read 2 two (and_another (fresh true all_changes) h)) 0 0) same (waits_here 2 two (and_another (fresh true all_changes) h) (omega arith))))
    by v false true e f is =
        let there : (if false then Some (fresh true all_changes) else if true then Some h else None) ≡ Some g = (λ i. if sym e i then Some (fresh true all_changes) else if sym f i then Some h else None) ∙ is in
        let same : h ≡ g = cc in let first : v ≡ 1 = eqb-true v 1 f in
        inl (subst (λ w. IsQuiet (read 2 two (and_another (fresh true all_changes) h)) 0 w g) (sym first) (subst (IsQuiet (read 2 two (and_another (fresh true all_changes) h)) 0 1) same quiet))
    by v false false e f is = let there : None ≡ Some g = (λ i. if sym e i then Some (fresh true all_changes) else if sym f i then Some h else None) ∙ is in cc

nothing_above : NoneWithin two 2 2
nothing_above x i above under = omega (arith, above, under)

pub other_put : LawfulWaits 2 two (and_another (fresh true all_changes) whole_put)
unfolding frames_in first_frame
other_put = waits_by 2 two (and_another (fresh true all_changes) whole_put)
    (other_rests whole_put (record { whole = (first_item ∷ [], next_item, refl, refl); stays = refl; goes_on = λ r. omega (arith, r); active = refl; none = inl nothing_above }))
    (record { vb = 0; stream = fresh true all_changes; known_as = refl; opens = refl; unclosed = refl; waits = waits_here 2 two (and_another (fresh true all_changes) whole_put) (omega arith) })

abbrev half_put : ClientStream
half_put = inside true all_changes two 0 2 (first_item ∷ [])

pub other_left : LawfulWaits 2 two (and_another (fresh true all_changes) half_put) → ⊥
unfolding frames_in first_frame
other_left l = ⊎_elim (λ q. not_there two q.whole) (λ w. not_there two w.whole) (l.0.7.0 1 half_put refl refl refl)
