-- what lines may tell of clients' streams, judged by hand
use Rattle.std.proofs.Common.{List, [], refl, ℕ, ◌∷◌}
use Rattle.std.specs.Prelude.{None}
unfoldable use Rattle.mcbp_dcp.specs.DcpFrames.{dcp_frame}
unfoldable use Rattle.mcbp_dcp.specs.Messages.{read_of}
unfoldable use Rattle.mcbp_dcp.specs.Rows.{frame_row}
unfoldable use Rattle.mcbp_dcp.specs.Shapes.{shape_fault}
unfoldable use Rattle.mcbp_frame.specs.Cutting.{frames_in}
unfoldable use Rattle.mcbp_frame.specs.Frames.{first_frame, frame_of}
unfoldable use Rattle.mcbp_frame.specs.Spelling.{spelling}
use Rattle.script_text.specs.declared.verb.LinkVerb.TheVariants as link_verb
use Rattle.vb_events.specs.declared.event.Event.TheVariants as event
use Rattle.vb_types.specs.declared.stream.AskAnswer.TheVariants as ask_answer
use Rattle.vb_types.specs.declared.stream.StreamAsk.{StreamAsk}
use Rattle.transcript_law.specs.AskedRows.{marks_of, pump_one, up_one}
use Rattle.transcript_law.specs.BoundRows.{LawfulHere}
use Rattle.transcript_law.specs.Chronicles.{Chronicle}
use Rattle.transcript_law.specs.ClientAskRows.{asked, client_asks, client_counts, client_ends, client_gives, client_hears, client_marks, hangs_up, none, pulls, requesting, sends_none, serving, that_sent, ticks}
use Rattle.transcript_law.specs.ClientRows.{closes}
use Rattle.transcript_law.specs.ClientStreamRows.{all_changes, open_setup, two}
use Rattle.transcript_law.specs.Crashes.{ok}
use Rattle.transcript_law.specs.Lawfulness.{LawfulFrom}
use Rattle.transcript_law.specs.TellingRows.{MayNotTell, changes_here}
use Rattle.transcript_law.proofs.rows.Answering.{dcp_answer}
use Rattle.transcript_law.proofs.rows.ClientStreamAsks.{all_order, answer_of, fair, free, goes, no_stream}
use Rattle.transcript_law.proofs.rows.Silent.{here_answered}
use Rattle.transcript_law.proofs.rows.TellingRows.{link_never, may_never}
use Rattle.vb_events.specs.declared.event.Answer.TheVariants as answer
use Rattle.transcript_law.proofs.verbs.Handing.{hands_plain}

pub pull_change : MayNotTell pulls changes_here
pull_change = may_never pulls changes_here (λ r. refl) (λ r m. refl)

pub pull_ask : (ask : StreamAsk) → MayNotTell pulls (client_asks 1 ask)
pull_ask ask = may_never pulls (client_asks 1 ask) (λ r. refl) (λ r m. refl)

pub pull_link : MayNotTell pulls (marks_of 1)
pull_link = may_never pulls (marks_of 1) (λ r. refl) (λ r m. refl)

pub pull_close : MayNotTell pulls (closes 0 1)
pull_close = may_never pulls (closes 0 1) (λ r. refl) (λ r m. refl)

pub pull_other : MayNotTell pulls (client_marks 2)
pull_other = may_never pulls (client_marks 2) (λ r. refl) (λ r m. refl)

pub pull_reply : (bytes : List ℕ) → MayNotTell pulls (event.Reply 0 2 bytes)
pull_reply bytes = may_never pulls (event.Reply 0 2 bytes) (λ r. refl) (λ r m. refl)

pub bytes_mark : MayNotTell sends_none (client_marks 1)
bytes_mark = may_never sends_none (client_marks 1) (λ r. refl) (λ r m. refl)

pub bytes_end : MayNotTell sends_none (client_ends 1)
bytes_end = may_never sends_none (client_ends 1) (λ r. refl) (λ r m. refl)

pub tick_mark : MayNotTell ticks (client_marks 1)
tick_mark = may_never ticks (client_marks 1) (λ r. refl) (λ r m. refl)

pub pump_mark : MayNotTell pump_one (client_marks 1)
pump_mark = link_never 1 (link_verb.Pump 9) (client_marks 1) (λ dial. refl) (λ dial m. refl)

pub up_mark : MayNotTell up_one (client_marks 1)
up_mark = link_never 1 (link_verb.Up 9) (client_marks 1) (λ dial. refl) (λ dial m. refl)

pub hang_ask : (ask : StreamAsk) → MayNotTell hangs_up (client_asks 1 ask)
hang_ask ask = may_never hangs_up (client_asks 1 ask) (λ r. refl) (λ r m. refl)

pub pump_ask : (ask : StreamAsk) → MayNotTell pump_one (client_asks 1 ask)
pump_ask ask = link_never 1 (link_verb.Pump 9) (client_asks 1 ask) (λ dial. refl) (λ dial m. refl)

-- what waited behind a durable write is answered with its outcome
pub tick_ask : LawfulHere (serving two (that_sent none (requesting 0 all_changes))) ticks (ok (asked all_changes ask_answer.Go))
unfolding spelling dcp_frame frames_in first_frame frame_of read_of frame_row shape_fault
tick_ask = (
  (
    (record { own_node = refl; request = _; next = refl; numbers = refl; vb = refl; answered = (let x = goes None (that_sent none (requesting 0 all_changes)) in record { own_log = x.own_log; own_high = x.own_high; verdict = x.verdict; active = x.active }); own = free open_setup refl; reason = fair open_setup None no_stream all_changes all_order; frame = ([], refl) }, ((refl, λ z. dcp_answer (answer_of ask_answer.Go) refl refl refl refl refl refl (tt, refl)), tt)),
    tt,
    refl,
    refl,
    λ w no standing. cc,
    hands_plain _ _ _ _ refl refl,
    tt,
    tt,
    here_answered (serving two (that_sent none (requesting 0 all_changes))) ticks (asked all_changes ask_answer.Go) answer.Ok (λ n c e. rw e refl) refl refl,
    tt,
    tt,
    (tt, tt),
  ),
  tt,
)

pub gives : (told : Chronicle) → LawfulFrom told (client_gives ∷ []) → ⊥
gives told l = l.0

pub hears : (told : Chronicle) → LawfulFrom told (client_hears ∷ []) → ⊥
hears told l = l.0

pub counts : (told : Chronicle) → LawfulFrom told (client_counts ∷ []) → ⊥
counts told l = l.0
