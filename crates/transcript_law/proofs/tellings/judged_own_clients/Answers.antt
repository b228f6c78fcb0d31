use Rattle.transcript_law.proofs.Words.{refl}
use Rattle.script_text.specs.declared.verb.Verb.TheVariants as verb
use Rattle.script_text.specs.declared.verb.VbVerb.TheVariants as vb_verb
use Rattle.script_text.specs.declared.verb.ClientVerb.TheVariants as client_verb
use Rattle.vb_events.specs.declared.event.Event.TheVariants as event
use Rattle.transcript_law.proofs.rows.TellingRows.{may_never, none_of, not_first, turn_none}
use Rattle.transcript_law.proofs.tellings.judged_own_clients.Goals as goal
use Rattle.transcript_law.specs.{AskedRows.{down_one, up_one}, TellingRows.{asks_at, makes_at, says_to}}

pub returns : goal.returns
returns c = record {
  chain = λ others. record { change = may_never (verb.AtVb 0 0 (vb_verb.Chain others)) (makes_at 1) (λ r. refl) (λ r m. refl); clients = λ c. none_of (verb.AtVb 0 0 (vb_verb.Chain others)) 1 c (λ r ask. refl) (λ r. refl) (λ r. refl) (λ r m. refl) };
  tick = record { change = may_never (verb.AtVb 0 0 vb_verb.Tick) (makes_at 1) (λ r. refl) (λ r m. refl); clients = λ c. none_of (verb.AtVb 0 0 vb_verb.Tick) 1 c (λ r ask. refl) (λ r. refl) (λ r. refl) (λ r m. refl) };
  done = record { change = may_never (verb.AtVb 0 0 vb_verb.Done) (makes_at 1) (λ r. refl) (λ r m. refl); clients = λ c. none_of (verb.AtVb 0 0 vb_verb.Done) 1 c (λ r ask. refl) (λ r. refl) (λ r. refl) (λ r m. refl) };
  promote = λ uuid. turn_none 0 (vb_verb.Promote uuid) (λ r. refl) (λ r c ask. refl) (λ r c. refl) (λ r c. refl) (λ r m at. at);
  follow = turn_none 0 vb_verb.Follow (λ r. refl) (λ r c ask. refl) (λ r c. refl) (λ r c. refl) (λ r m at. at);
  dead = turn_none 0 vb_verb.Dead (λ r. refl) (λ r c ask. refl) (λ r c. refl) (λ r c. refl) (λ r m at. at);
  bytes = λ bytes. record { change = may_never (verb.AtClient 0 1 (client_verb.Bytes bytes)) (makes_at 1) (λ r. refl) (λ r m. refl); clients = λ c. none_of (verb.AtClient 0 1 (client_verb.Bytes bytes)) 1 c (λ r ask. refl) (λ r. refl) (λ r. refl) (λ r m. refl) };
  bytes_beside = λ bytes. none_of (verb.AtClient 0 1 (client_verb.Bytes bytes)) 0 2 (λ r ask. refl) (λ r. refl) (λ r. refl) (λ r m. refl);
  pull_beside = none_of (verb.AtClient 0 1 (client_verb.Pull 9)) 0 2 (λ r ask. refl) (λ r. refl) (λ r. refl) (λ r m. refl);
  up = record { change = not_first up_one (makes_at 1) refl; request = λ c ask. not_first up_one (asks_at 1 c ask) refl; answer = λ c. not_first up_one (says_to 1 c) refl; closing = λ c. not_first up_one (event.Closed 1 c) refl };
  down = record { change = not_first down_one (makes_at 1) refl; request = λ c ask. not_first down_one (asks_at 1 c ask) refl; answer = λ c. not_first down_one (says_to 1 c) refl; closing = λ c. not_first down_one (event.Closed 1 c) refl };
}
