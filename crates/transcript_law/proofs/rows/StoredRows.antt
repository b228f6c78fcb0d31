-- a set that stands before its answer, in transcripts that are judged by hand
use Rattle.std.specs.Prelude.{◌≡◌, ◌∷◌}
use Rattle.transcript_law.proofs.Words.{ℕ, [], refl, Some, Change}
use Rattle.transcript_law.specs.{AnsweredWrites.{AllToldNext}, OwnChanges.{given_cas}, Transcripts.{set_told}}
use Rattle.vb_events.specs.declared.event.Event.TheVariants as event

-- a change that was made, and told with its CAS
pub made_stored : (b cas : ℕ) (change : Change) → given_cas change.act ≡ Some cas → AllToldNext (event.Changed 0 0 b change ∷ set_told cas ∷ [])
made_stored b cas change is = (λ own. record { client = _; answer = _; more = _; next = refl; made = refl; cas = is }, tt)
