-- the last CAS never falls
use Rattle.std.proofs.Common.{ℕ, ◌<◌, ◌≤◌, ◌^◌, sym, ap, subst, arith}
use Rattle.vb_calls.specs.declared.calls.VbCall.{VbCall}
use Rattle.vb_calls.specs.declared.calls.VbReply.{VbReply}
use Rattle.vb_calls.specs.Settling.{and_settled}
use Rattle.vb_calls.specs.State.{Plain}
use Rattle.vbucket.specs.Laws.{CasNeverFalls}
use Rattle.vbucket.proofs.RowIs.{RowIs, StartIs, Expires, Prepares, Settles, Writes, row_is}
use Rattle.vbucket.proofs.Settling.{expires, settles}
use Rattle.vbucket.proofs.Storing.{cas_rises}

-- what resolves prepares leaves the last CAS
then_rises : (last : ℕ) (start : Plain × VbReply) → last ≤ start.0.last_cas → last ≤ (and_settled start).0.last_cas
then_rises last start l = subst (λ n. last ≤ n) (sym (ap (λ (x : Plain). x.last_cas) (settles start).commits.2.stays)) l

start_rises : (vb : Plain) {c : VbCall} {start : Plain × VbReply} → StartIs vb c start → vb.last_cas < 2 ^ 64 → vb.last_cas ≤ start.0.last_cas
start_rises vb (Prepares write clock wish free) l = cas_rises clock vb.last_cas l
start_rises vb (Expires clock on) l = subst (λ n. vb.last_cas ≤ n) (sym (ap (λ (x : Plain). x.last_cas) (expires vb clock).gives.1.stays)) (omega arith)
start_rises vb other l = omega arith

row_rises : (vb : Plain) {c : VbCall} {made : Plain × VbReply} → RowIs vb c made → vb.last_cas < 2 ^ 64 → vb.last_cas ≤ made.0.last_cas
row_rises vb (Writes write clock free) l = cas_rises clock vb.last_cas l
row_rises vb (Settles c start is) l = then_rises vb.last_cas start (start_rises vb is l)
row_rises vb other l = omega arith

pub never_falls : CasNeverFalls
never_falls vb call s = row_rises vb (row_is vb call) s.last_cas
