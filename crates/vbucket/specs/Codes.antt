-- what is kept of a vBucket as a tuple of what it has
use Rattle.std.specs.Prelude.{ℕ, Bool, List, Option, refl}
use Rattle.std.specs.Coded.{Coded, code_by, coded×, coded_list, coded_option, coded_ℕ, coded_bool}
use Rattle.durability.specs.declared.waiting.Waiting.{Waiting}
use Rattle.durability.specs.contracts.waiting.Waiting as waiting_row
use Rattle.durability.specs.Chains.{Members}
use Rattle.vb_types.specs.declared.change.Change.{Change}
use Rattle.vb_types.specs.declared.position.Position.{Position}
use Rattle.vb_types.specs.declared.role.LogEntry.{LogEntry}
use Rattle.vb_types.specs.declared.role.Role.{Role}
use Rattle.vb_types.specs.contracts.change.Change as change_row
use Rattle.vb_types.specs.contracts.position.Position as position_row
use Rattle.vb_types.specs.contracts.role.LogEntry as entry_row
use Rattle.vb_types.specs.contracts.role.Role as role_row
use Rattle.vb_types.specs.Images.{Picture, picture_code}
use Rattle.vb_calls.specs.declared.stream.Stream.{Stream}
use Rattle.vb_calls.specs.declared.span.Span.{Span}
use Rattle.vb_calls.specs.contracts.stream.Stream as stream_row
use Rattle.vb_calls.specs.contracts.span.Span as span_row
use Rattle.vb_calls.specs.State.{Plain}
use Rattle.vb_calls.specs.Spans.{Spans}
use Rattle.ckpt_list.specs.Lists.{Ckpts}
use Rattle.ckpt_list.specs.contracts.ckpt_list.CkptList as list_row
use Rattle.vbucket.specs.Kept.{Kept}

abbrev spans_code : Coded Spans
spans_code =
    code_by (List Span × Option Span) (coded× (coded_list span_row.the_row.coded) (coded_option span_row.the_row.coded))
    (λ w. (w.sealed, w.current)) (λ p. record { sealed = p.0; current = p.1 }) (λ _. refl)

-- the role, the position, the log, the last CAS and whether no marker came
abbrev Standing : Type 0
Standing = (Role × Position) × ((List LogEntry × ℕ) × Bool)

-- the changes, their spans and their streams
abbrev Changes : Type 0
Changes = (Picture × List Change) × (Spans × List Stream)

-- above which seqno the changes lie, and up to which all is written down and was taken to be
abbrev Marks : Type 0
Marks = ℕ × (ℕ × ℕ)

-- the chain's other members, what each acknowledged, and the outstanding prepares
abbrev Outstanding : Type 0
Outstanding = (Members × List ℕ) × List Waiting

abbrev outstanding_code : Coded Outstanding
outstanding_code = coded× (coded× (coded_list (coded_option coded_ℕ)) (coded_list coded_ℕ)) (coded_list waiting_row.the_row.coded)

abbrev standing_code : Coded Standing
standing_code = coded× (coded× role_row.the_row.coded position_row.the_row.coded) (coded× (coded× (coded_list entry_row.the_row.coded) coded_ℕ) coded_bool)

abbrev changes_code : Coded Changes
changes_code = coded× (coded× picture_code (coded_list change_row.the_row.coded)) (coded× spans_code (coded_list stream_row.the_row.coded))

abbrev marks_code : Coded Marks
marks_code = coded× coded_ℕ (coded× coded_ℕ coded_ℕ)

abbrev plain_code : Coded Plain
plain_code =
    code_by (((ℕ × Outstanding) × Marks) × (Standing × Changes)) (coded× (coded× (coded× coded_ℕ outstanding_code) marks_code) (coded× standing_code changes_code))
    (λ v. (((v.node, ((v.others, v.acks), v.waiting)), (v.floor, (v.saved, v.flushed))), (((v.role, v.position), ((v.log, v.last_cas), v.first)), ((v.base, v.held), (v.spans, v.streams)))))
    (λ p. record {
      node = p.0.0.0;
      role = p.1.0.0.0;
      base = p.1.1.0.0;
      held = p.1.1.0.1;
      position = p.1.0.0.1;
      log = p.1.0.1.0.0;
      last_cas = p.1.0.1.0.1;
      spans = p.1.1.1.0;
      streams = p.1.1.1.1;
      first = p.1.0.1.1;
      floor = p.0.1.0;
      saved = p.0.1.1.0;
      flushed = p.0.1.1.1;
      others = p.0.0.1.0.0;
      acks = p.0.0.1.0.1;
      waiting = p.0.0.1.1;
    })
    (λ _. refl)

abbrev pub kept_code : Coded Kept
kept_code = code_by (Plain × Ckpts) (coded× plain_code list_row.the_row.coded) (λ k. (k.rest, k.list)) (λ p. record { rest = p.0; list = p.1 }) (λ _. refl)
