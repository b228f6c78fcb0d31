use Rattle.std.proofs.Common.{◌≡◌, ap, subst, ◌∙◌}
use Rattle.std.specs.Prelude.{ℕ, Some}
use Rattle.vb_calls.specs.Trims.{needless_of}
use Rattle.vb_calls.specs.State.{quiet_reply}
use Rattle.vb_calls.specs.declared.calls.VbAnswer.TheVariants as answer
use Rattle.cursor_set.specs.Cursors.{place_of}
use Rattle.ckpt_list.specs.Trims.{needless, trimmed}
use Rattle.vbucket.specs.Kept.{Kept, kept_trim}
use Rattle.vbucket.specs.contracts.vbucket.VBucket as row
use Rattle.vbucket.proofs.Trimmed.{least_fed}
use Rattle.vbucket.proofs.Trimming.{trimmed_steady}
use Rattle.vbucket.proofs.vbucket.VBucket.trim.Goals as goal

pub invariant_of-self : goal.invariant_of-self
invariant_of-self c = let v = c.self.inside in trimmed_steady v.role v.position.at v.list c.trim-gone.new.self v.streams.items v.saved c.self.invariant (ap (λ p. p.0) c.trim-gone.ensures)

pub returns-clause-row : goal.returns-clause-row
returns-clause-row c =
    let v = c.self.inside in
    let l = c.trim-gone.ensures in
    let reply : c.told.result ≡ quiet_reply (answer.Num (trimmed v.list v.saved).1) = c.told.ensures ∙ ap (λ p. quiet_reply (answer.Num p.1)) l in
    (λ i. (record { rest = (row.the_view v).rest; list = (l i).0 }, reply i)) ∙ ap kept_trim c.self.view_is

pub returns-clause-needless : goal.returns-clause-needless
returns-clause-needless c =
    let v = c.self.inside in
    subst (λ (k : Kept). (flushed : ℕ) → place_of k.list.places 0 ≡ Some flushed → needless k.list k.rest.saved ≡ needless_of k.rest.saved flushed k.rest.streams) c.self.view_is
    (λ flushed zero. least_fed v.list.places v.streams.items v.saved flushed c.self.invariant.fed zero)
