-- each change stands in one span, also after a call
use Rattle.std.proofs.Common.{◌≡◌, ℕ, ◌<◌, ◌≤◌, true, List, [], ◌∷◌, ◌++◌, sym, subst, refl, arith}
use Rattle.std.specs.Prelude.{Option, None}
use Rattle.std.proofs.lemmas.List.{append-nil}
use Rattle.vb_types.specs.declared.change.Change.{Change}
use Rattle.vb_types.specs.declared.role.Role.{Role}
use Rattle.vb_types.specs.declared.role.Role.TheVariants as role
use Rattle.vb_types.specs.Histories.{Rises}
use Rattle.vb_calls.specs.declared.span.Origin.TheVariants.{Own, Received}
use Rattle.vb_calls.specs.declared.span.Span.{Span}
use Rattle.vb_calls.specs.State.{Plain, is_active}
use Rattle.vb_calls.specs.Spans.{Spans, all_spans, last_at, own_joined, received_joined, span_of, with_change, with_seal}
use Rattle.vb_calls.specs.Following.{is_follower, with_received_change}
use Rattle.vb_calls.specs.Writes.{growth}
use Rattle.vbucket.specs.Laws.{AllSpans, AreSpanned, Follow, OpensOwn}
use Rattle.vbucket.specs.Stands.{IsSpanned}
use Rattle.vbucket.proofs.Grown.{entered_follow, own_grown, received_grown}
use Rattle.vbucket.proofs.Parts.{Among, among_most, ends_above, from_zero}
use Rattle.vbucket.proofs.Tidying.{entered_tidy, opens_own, own_joins, own_span, received_joins}

pub rises_push : (low high : ℕ) (cs : List Change) (c : Change) → Rises low high cs → high < c.seq → Rises low c.seq (cs ++ c ∷ [])
rises_push low high [] c r h = (omega arith, omega arith)
rises_push low high (d ∷ ds) c r h = (r.0, rises_push d.seq high ds c r.1 h)

pub opens_free : (r : Role) (current : Option Span) → is_follower r ≡ true → OpensOwn r current
opens_free role.Active current e = cc
opens_free role.Replica current e = tt
opens_free role.Pending current e = tt
opens_free role.Dead current e = cc

pub no_open : (r : Role) → OpensOwn r None
no_open role.Active = tt
no_open role.Replica = tt
no_open role.Pending = tt
no_open role.Dead = tt

-- no change above a seqno
pub spanned_none : (r : Role) (at : ℕ) → AreSpanned r at at [] (record { sealed = []; current = None }) at
spanned_none r at = record { rises = omega arith; current = no_open r; spans = refl; tidy = tt; flushed = (omega arith, omega arith) }

-- the open span is sealed, in whichever role
pub sealed_spanned : {r : Role} {floor at : ℕ} {held : List Change} {ws : Spans} {taken : ℕ} (new : Role) → AreSpanned r floor at held ws taken → AreSpanned new floor at held (with_seal ws) taken
sealed_spanned {floor = floor} {at = at} {held = held} {ws = ws} new is = record {
  rises = is.rises;
  current = no_open new;
  spans = subst (λ xs. Follow floor xs at) (sym (append-nil (all_spans ws))) is.spans;
  tidy = subst (AllSpans held) (sym (append-nil (all_spans ws))) is.tidy;
  flushed = is.flushed;
}

-- the changes were taken up to the end of a span
pub taken_spanned : (s : Plain) (w : Span) → IsSpanned s → Among w (all_spans s.spans) → IsSpanned (record s { flushed = w.last })
taken_spanned s w is a =
    let m = ends_above s.floor s.position.at (all_spans s.spans) w is.spans a in
    record { rises = is.rises; current = is.current; spans = is.spans; tidy = is.tidy; flushed = (omega arith, among_most s.floor s.position.at (all_spans s.spans) w is.spans a) }

-- an own change
pub grown_spanned : (s : Plain) (c : Change) (cas : ℕ) → IsSpanned s → is_active s.role ≡ true → s.position.at < c.seq → IsSpanned (growth s c cas).0
grown_spanned s c cas is a l = record {
  rises = rises_push s.floor s.position.at s.held c is.rises l;
  current = opens_own s.role s.spans (own_joined s.held s.spans.current (last_at s.held c.key) c) (span_of s.position.at Own c) c.seq is.current refl (own_grown s.held s.spans.current (last_at s.held c.key) c);
  spans = entered_follow s.floor s.spans (own_joined s.held s.spans.current (last_at s.held c.key) c) (span_of s.position.at Own c) s.position.at c.seq is.spans l refl refl (own_grown s.held s.spans.current (last_at s.held c.key) c);
  tidy = entered_tidy s.floor s.spans (own_joined s.held s.spans.current (last_at s.held c.key) c) (span_of s.position.at Own c) s.position.at s.held c (from_zero s.floor s.position.at s.held is.rises) is.spans is.tidy l refl refl
      (own_grown s.held s.spans.current (last_at s.held c.key) c) (own_joins s.position.at s.held c s.spans.current (from_zero s.floor s.position.at s.held is.rises) (own_span s.role s.spans.current a is.current));
  flushed = (is.flushed.0, let m : s.flushed ≤ s.position.at = is.flushed.1 in omega arith);
}

-- a received change
pub received_spanned : (s : Plain) (c : Change) → IsSpanned s → is_follower s.role ≡ true → s.position.at < c.seq → IsSpanned (with_received_change s c).0
received_spanned s c is e l =
    let origin = Received s.position.ss s.position.se in
    record {
      rises = rises_push s.floor s.position.at s.held c is.rises l;
      current = opens_free s.role (with_change s.spans (received_joined s.held s.spans.current (last_at s.held c.key) c) (span_of s.position.at origin c)).current e;
      spans = entered_follow s.floor s.spans (received_joined s.held s.spans.current (last_at s.held c.key) c) (span_of s.position.at origin c) s.position.at c.seq is.spans l refl refl (received_grown s.held s.spans.current (last_at s.held c.key) c);
      tidy = entered_tidy s.floor s.spans (received_joined s.held s.spans.current (last_at s.held c.key) c) (span_of s.position.at origin c) s.position.at s.held c (from_zero s.floor s.position.at s.held is.rises) is.spans is.tidy l refl refl
          (received_grown s.held s.spans.current (last_at s.held c.key) c) (received_joins s.position.at s.held c s.spans.current (from_zero s.floor s.position.at s.held is.rises));
      flushed = (is.flushed.0, let m : s.flushed ≤ s.position.at = is.flushed.1 in omega arith);
    }
