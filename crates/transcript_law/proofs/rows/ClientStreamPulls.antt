-- pulls of clients' streams, judged by hand
use Rattle.std.proofs.Common.{List, [], ap, arith, inl, inr, refl, subst, sym, true, false, ℕ, ⊎_elim, ◌++◌, ◌∙◌, ◌∷◌, ◌≡◌, ◌<◌}
use Rattle.std.specs.Prelude.{Bool, Some, None, ◌==◌, if◌then◌else◌}
use Rattle.std.proofs.lemmas.Bool.{eqb-true}
unfoldable use Rattle.mcbp_dcp.specs.DcpFrames.{dcp_frame}
unfoldable use Rattle.mcbp_dcp.specs.Messages.{read_of}
unfoldable use Rattle.mcbp_dcp.specs.Rows.{frame_row}
unfoldable use Rattle.mcbp_dcp.specs.Shapes.{shape_fault}
unfoldable use Rattle.mcbp_frame.specs.Cutting.{frames_in}
unfoldable use Rattle.mcbp_frame.specs.Frames.{first_frame, frame_of}
unfoldable use Rattle.mcbp_frame.specs.Spelling.{spelling}
use Rattle.vb_events.specs.declared.event.Answer.TheVariants as answer
use Rattle.vb_events.specs.declared.event.Cause.TheVariants as cause
use Rattle.vb_types.specs.declared.change.Change.{Change}
use Rattle.transcript_law.specs.BoundRows.{LawfulHere}
use Rattle.transcript_law.specs.ClientAskRows.{LawfulPulled, all_lines, closing, idle, moved, none, other_marked, pulls, puts, resting, serving, that_asked}
use Rattle.transcript_law.specs.ClientFrames.{is_closed_by}
use Rattle.transcript_law.specs.ClientStreamRows.{all_changes, finished, first_item, fresh, inside, marked, next_item, one, pending, prepared, put_two, snapshot, third_change, three, two, unframed, untold, up_to, with_streams}
use Rattle.transcript_law.specs.ClientStreams.{Begun, ClientKnown, ClientStream, ItemLine}
use Rattle.transcript_law.specs.Followers.{next_change}
use Rattle.transcript_law.specs.{LawfulClients.{AllQuiet, IsQuiet, NoneWithin}, LinesTold.{at_line}}
use Rattle.transcript_law.specs.Questions.{served_frames}
use Rattle.transcript_law.specs.Undone.{EndsThere}
use Rattle.transcript_law.specs.Transcripts.{one_change}
use Rattle.flow_control.specs.Windows.{is_open as lets_through}
use Rattle.transcript_law.specs.StreamsTold.{FlowKnown, blank_flow}
use Rattle.transcript_law.proofs.rows.ClientStreams.{none_counted}
use Rattle.transcript_law.proofs.rows.ClientStreamVerdicts.{no_active}
use Rattle.transcript_law.proofs.rows.Silent.{here_answered, none_of, unbroken_of}
use Rattle.vb_events.specs.declared.event.Why.TheVariants as why
use Rattle.transcript_law.proofs.verbs.Handing.{hands_plain, tells_of}

-- ---- idle pulls

-- an idle pull is lawful where each stream is quiet
idles : (changes : List Change) (known : ClientKnown) → known.asking.bytes ≡ [] → known.flow ≡ blank_flow → AllQuiet (at_line (serving changes known) 1) 0 known → LawfulPulled changes known idle
idles changes known silent unflown quiet = ((tt, (refl, record { told = refl; most = omega arith; all = λ e. cc; only = λ e. absurd (omega (arith, e)) }), refl, refl, (λ w no standing. cc), hands_plain _ _ _ _ refl refl, refl, (quiet, none_counted known (ap (λ (f : FlowKnown). f.bytes) unflown) (ap (λ (f : FlowKnown). lets_through f.window) unflown)), here_answered (serving changes known) pulls [] (answer.Pulled 0 why.Idle) (λ n c e. rw e refl) (none_of known.asking silent) (unbroken_of known.asking silent), tt, tt, (tt, tt)), tt)

-- of one stream it is enough that this one is
one_quiet : (changes : List Change) (g : ClientStream) → IsQuiet (at_line (serving changes (with_streams (one g))) 1) 0 0 g → AllQuiet (at_line (serving changes (with_streams (one g))) 1) 0 (with_streams (one g))
one_quiet changes g quiet v h is opens unclosed = by v (v == 0) refl is
  where
    by : (v : ℕ) (b : Bool) → (v == 0) ≡ b → (if v == 0 then Some g else None) ≡ Some h → IsQuiet (at_line (serving changes (with_streams (one g))) 1) 0 v h
    by v true at is =
        let there : (if true then Some g else None) ≡ Some h = ap (λ (c : Bool). if c then Some g else None) (sym at) ∙ is in let same : g ≡ h = cc in
        let zero : v ≡ 0 = eqb-true v 0 at in
        subst (λ w. IsQuiet (at_line (serving changes (with_streams (one g))) 1) 0 w h) (sym zero) (subst (IsQuiet (at_line (serving changes (with_streams (one g))) 1) 0 0) same quiet)
    by v false at is = let none : None ≡ Some h = ap (λ (c : Bool). if c then Some g else None) (sym at) ∙ is in cc

-- and the one stream is quiet where it is lawful
is_quiet : (changes : List Change) (g : ClientStream) → LawfulPulled changes (with_streams (one g)) idle → g.over ≡ false → IsQuiet (at_line (serving changes (with_streams (one g))) 1) 0 0 g
unfolding frames_in
is_quiet changes g l opens = l.0.7.0 0 g refl opens refl

pub no_stream : LawfulPulled two (with_streams none) idle
no_stream = idles two (with_streams none) refl refl (λ v g is. absurd (nobody g is))
  where
    nobody : (g : ClientStream) → None ≡ Some g → ⊥
    nobody g e = cc

-- all that its vBucket holds was put
abbrev all_put : ClientStream
all_put = inside true all_changes two 0 2 (first_item ∷ next_item ∷ [])

nothing_above : NoneWithin two 2 2
nothing_above x i over under = omega (arith, over, under)

pub put : LawfulPulled two (with_streams (one all_put)) idle
put = idles two (with_streams (one all_put)) refl refl (one_quiet two all_put (record { whole = (first_item ∷ [], next_item, refl, refl); stays = refl; goes_on = λ r. omega (arith, r); active = refl; none = inl nothing_above }))

pub unput : LawfulPulled two (with_streams (one (fresh true all_changes))) idle → ⊥
unput l = ⊎_elim (λ n. n next_change (inr (inl refl)) (omega arith) (omega arith)) (λ f. let e : 2 < 0 = f.1 in omega (arith, e)) (is_quiet two (fresh true all_changes) l refl).none

-- a snapshot was begun
begun_one : (b : Begun) → Some b ≡ None → ⊥
begun_one b e = cc

pub left : LawfulPulled three (with_streams (one put_two)) idle → ⊥
left l = ⊎_elim (λ n. n third_change (inr (inr (inl refl))) (omega arith) (omega arith)) (λ f. begun_one _ f.0) (is_quiet three put_two l refl).none

abbrev half_put : ClientStream
half_put = inside true all_changes two 0 2 (first_item ∷ [])

pub part : LawfulPulled two (with_streams (one half_put)) idle → ⊥
part l = not_there (is_quiet two half_put l refl).whole
  where
    not_there : EndsThere (snapshot two 0 2 (first_item ∷ [])) → ⊥
    not_there ([], item, is, ends) = let only : first_item ≡ item = cc in let e : ◌≡◌ {A = ℕ} 1 2 = ap (λ (i : ItemLine). i.seq) only ∙ ends in omega (arith, e)
    not_there (x ∷ [], item, is, ends) = cc
    not_there (x ∷ y ∷ more, item, is, ends) = cc

abbrev due_now : ClientStream
due_now = inside true (up_to 2) two 0 2 (first_item ∷ next_item ∷ [])

pub due : LawfulPulled two (with_streams (one due_now)) idle → ⊥
due l = (is_quiet two due_now l refl).goes_on (omega arith)

pub turns : LawfulPulled two (with_streams (one (moved all_put))) idle → ⊥
turns l = let e : true ≡ false = (is_quiet two (moved all_put) l refl).stays in cc

pub inactive : LawfulHere (resting two (with_streams (one all_put))) pulls idle → ⊥
unfolding frames_in
inactive l = no_active (l.0.7.0 0 all_put refl refl refl).active

-- streams that count for nothing

pub over : LawfulPulled two (with_streams (one (finished (fresh true all_changes)))) idle
over = idles two (with_streams (one (finished (fresh true all_changes)))) refl refl (λ v g is opens unclosed. absurd (by g (v == 0) is opens))
  where
    by : (g : ClientStream) (b : Bool) → (if b then Some (finished (fresh true all_changes)) else None) ≡ Some g → g.over ≡ false → ⊥
    by g true is opens = let same : finished (fresh true all_changes) ≡ g = cc in let e : true ≡ false = ap (λ (h : ClientStream). h.over) same ∙ opens in cc
    by g false is opens = cc

pub closed : LawfulPulled two (that_asked (one (fresh true all_changes)) (closing 0)) idle
unfolding spelling dcp_frame frames_in first_frame frame_of read_of frame_row shape_fault
closed = idles two (that_asked (one (fresh true all_changes)) (closing 0)) refl refl (λ v g is opens unclosed. absurd (by v g (v == 0) refl is unclosed))
  where
    by : (v : ℕ) (g : ClientStream) (b : Bool) → (v == 0) ≡ b → (if v == 0 then Some (fresh true all_changes) else None) ≡ Some g → is_closed_by (served_frames (that_asked (one (fresh true all_changes)) (closing 0))) v ≡ false → ⊥
    by v g true at is unclosed = let zero : v ≡ 0 = eqb-true v 0 at in let e : true ≡ false = ap (is_closed_by (served_frames (that_asked (one (fresh true all_changes)) (closing 0)))) (sym zero) ∙ unclosed in cc
    by v g false at is unclosed = let none : None ≡ Some g = ap (λ (c : Bool). if c then Some (fresh true all_changes) else None) (sym at) ∙ is in cc

-- a prepare that is held and not put

abbrev sync_first : ClientStream
sync_first = inside true all_changes pending 0 1 (first_item ∷ [])

abbrev plain_first : ClientStream
plain_first = inside false all_changes pending 0 1 (first_item ∷ [])

pub prepare : LawfulPulled pending (with_streams (one sync_first)) idle → ⊥
prepare l = ⊎_elim (λ n. n prepared (inr (inl refl)) (omega arith) (omega arith)) (λ f. begun_one _ f.0) (is_quiet pending sync_first l refl).none

none_shown : NoneWithin (one_change ∷ []) 1 2
none_shown x i above under = ⊎_elim (λ e. let n : x.seq ≡ 1 = ap (λ (c : Change). c.seq) e in omega (arith, above, n)) (λ k. k) i

pub plain_prepare : LawfulPulled pending (with_streams (one plain_first)) idle
plain_prepare = idles pending (with_streams (one plain_first)) refl refl (one_quiet pending plain_first (record { whole = ([], first_item, refl, refl); stays = refl; goes_on = λ r. omega (arith, r); active = refl; none = inl none_shown }))

-- ---- answers

pub shut : LawfulPulled two (with_streams none) ([], answer.No cause.LinkClosed) → ⊥
shut l = let e : true ≡ false = l.0.1 in cc

pub carried : LawfulPulled two (with_streams none) ([], answer.Ok) → ⊥
carried l = l.0.1

pub miscounted : LawfulPulled two (with_streams (one (fresh true (up_to 2)))) (puts 3 all_lines) → ⊥
miscounted l = let e : ◌≡◌ {A = ℕ} 3 4 = l.0.1.1.told in omega (arith, e)

pub other : LawfulPulled two (with_streams (one (fresh true all_changes))) (puts 1 other_marked) → ⊥
other l = let e : false ≡ true = tells_of _ _ _ _ tt l.0.5 in cc

pub more : LawfulPulled two (with_streams (one (fresh true all_changes))) (puts 1 (marked 0 0 2 ++ untold)) → ⊥
more l = let e : ◌≡◌ {A = ℕ} 3 2 = l.0.6 in omega (arith, e)

pub reply : LawfulPulled two (with_streams none) (puts 0 untold) → ⊥
reply l = let e : ◌≡◌ {A = ℕ} 1 0 = l.0.6 in omega (arith, e)

pub no_reply : LawfulPulled two (with_streams (one (fresh true all_changes))) (puts 1 unframed) → ⊥
no_reply l = let e : ◌≡◌ {A = ℕ} 1 2 = l.0.6 in omega (arith, e)
