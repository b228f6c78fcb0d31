-- a client's commands are none of DCP's
use Rattle.std.proofs.Common.{◌≡◌, ℕ, Bool, true, false, List, [], ◌∷◌, refl, sym, ap, ◌∙◌, Ok}
use Rattle.std.specs.Prelude.{◌==◌, ◌||◌}
use Rattle.std.proofs.lemmas.Bool.{eqb-true}
use Rattle.mcbp_frame.specs.declared.frame.Frame.{Frame}
use Rattle.mcbp_kv.specs.Requests.{is_one_of, client_opcodes, request_of}
use Rattle.mcbp_kv.specs.declared.request.KvRequest.{KvRequest}
use Rattle.mcbp_kv.proofs.Asked.{passed}
use Rattle.client_session.specs.Serving.{is_dcp}

-- none of these opcodes is DCP's
NoneDcp : List ℕ → Type 0
NoneDcp [] = Unit {0}
NoneDcp (m ∷ ms) = (is_dcp m ≡ false) × NoneDcp ms

none_of : (n : ℕ) (ms : List ℕ) → NoneDcp ms → is_one_of n ms ≡ true → is_dcp n ≡ false
unfolding NoneDcp
none_of n [] none e = cc
none_of n (m ∷ ms) none e = by (m == n) (is_one_of n ms) refl refl e (none_of n ms none.1)
  where
    by : (here later : Bool) → (m == n) ≡ here → is_one_of n ms ≡ later → (here || later) ≡ true → (is_one_of n ms ≡ true → is_dcp n ≡ false) → is_dcp n ≡ false
    by true later h l e behind = ap is_dcp (sym (eqb-true m n h)) ∙ none.0
    by false later h l e behind = behind (l ∙ e)

commands : NoneDcp client_opcodes
unfolding NoneDcp
commands = (refl, (refl, (refl, (refl, (refl, (refl, (refl, tt)))))))

-- what is read as a command
pub read_own : (json : Bool) (f : Frame) (r : KvRequest) → request_of json f ≡ Ok r → is_dcp f.opcode ≡ false
read_own json f r e = none_of f.opcode client_opcodes commands (passed json f r e).code
