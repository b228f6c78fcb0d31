-- calls that resolve no prepare tell none, and what a receipt lets be committed
use Rattle.std.proofs.Common.{◌≡◌, ◌⊎◌, ⊎_elim, true, false, [], refl, sym, ◌∙◌}
use Rattle.std.specs.Prelude.{max}
use Rattle.vb_calls.specs.declared.calls.VbAnswer.TheVariants as answer
use Rattle.vb_calls.specs.declared.calls.VbCall.{VbCall}
use Rattle.vb_calls.specs.declared.calls.VbReply.{VbReply}
use Rattle.vb_calls.specs.State.{Plain, quiet_reply}
use Rattle.vbucket.specs.DurableLaws.{IsQuiet, QuietOnes, ReceiptsCommit}
use Rattle.vbucket.specs.Laws.{is_refusal}
use Rattle.vbucket.proofs.Committing.{commits}
use Rattle.vbucket.proofs.RowIs.{RowIs, Settles, Turns, Writes, Yields, begins, row_is}
use Rattle.vbucket.proofs.Soundness.{saved_sound}

row_quiet : (vb : Plain) {c : VbCall} {made : Plain × VbReply} → RowIs vb c made → IsQuiet c ⊎ (is_refusal made.1.answer ≡ true) → (made.1.resolved ≡ []) × (made.1.branch ≡ 0)
row_quiet vb (Writes write clock free) o = ⊎_elim (λ q. absurd q) (λ e. cc) o
row_quiet vb (Settles c start is) o = ⊎_elim (λ q. absurd ((begins vb is).1 q)) (λ e. let z : true ≡ false = sym e ∙ (begins vb is).0 in cc) o
row_quiet vb (Turns c new loud idle) o = ⊎_elim (λ q. absurd (loud q)) (λ e. cc) o
row_quiet vb (Yields id kept on at) o = ⊎_elim (λ q. absurd q) (λ e. cc) o
row_quiet vb other o = (refl, refl)

pub quiet_ones : QuietOnes
quiet_ones vb call o = row_quiet vb (row_is vb call) o

-- what is written down

pub receipts_commit : ReceiptsCommit
receipts_commit vb seq s = commits (record vb { saved = max vb.saved seq }, quiet_reply (answer.Num (max vb.saved seq))) (saved_sound vb seq s)
