-- which frames are handed up
use Rattle.std.proofs.Common.{◌≡◌, ◌≢◌, ◌<◌, ℕ, Bool, true, false, List, ◌++◌, length, drop, arith, refl, sym, ap, ◌∙◌, subst, Option, Some, None, Ok}
use Rattle.std.specs.Prelude.{◌==◌, if◌then◌else◌}
use Rattle.std.proofs.lemmas.Bool.{eq-eqb}
use Rattle.mcbp_frame.specs.Frames.{first_frame, frame_len}
use Rattle.mcbp_frame.specs.declared.frame.Frame.{Frame}
use Rattle.mcbp_frame.specs.declared.frame.TheConstants.{RESPONSE}
use Rattle.mcbp_kv.specs.Requests.{request_of}
use Rattle.vb_calls.specs.declared.calls.Resolved.{Resolved}
use Rattle.vb_calls.specs.declared.calls.VbCall.{VbCall}
use Rattle.vb_calls.specs.declared.calls.VbReply.{VbReply}
use Rattle.vb_calls.specs.Programs.{Done, bind, Ran, AnyReply, AnyCall, Always}
use Rattle.vb_calls.proofs.Conduct.{always_bind, always_so}
use Rattle.client_session.specs.Serving.{Served, is_dcp, handed, is_held, request_handled, frame_answered, frame_handled, turns_handled, bytes_handled, outcome_handled, with_bytes}
use Rattle.client_session.proofs.Conduct.{Stays, either, frame_stays, request_unhanded}
use Rattle.client_session.proofs.Keeping.{front_of, bytes_keep, outcome_keeps}
use Rattle.client_session.proofs.Rows.{not_response}
use Rattle.client_session.proofs.Turns.{turns_waiting, turns_none, turns_fault, turns_frame, by_turns, behind_fewer, handed_holds, is_opened, is_closed, ran_always}

-- ---- one frame

pub handed_up : (clock : ℕ) (f : Frame) (s : Served) → f.magic ≢ RESPONSE → is_dcp f.opcode ≡ true → frame_handled clock f s ≡ Done (handed f s)
unfolding frame_handled
handed_up clock f s asks dcp = λ i. if not_response f asks i then Done s else if dcp i then Done (handed f s) else frame_answered clock f s

pub dropped_here : (clock : ℕ) (f : Frame) (s : Served) → f.magic ≡ RESPONSE → frame_handled clock f s ≡ Done s
unfolding frame_handled
dropped_here clock f s e = ap (λ b. if b then Done s else if is_dcp f.opcode then Done (handed f s) else frame_answered clock f s) (eq-eqb f.magic RESPONSE e)

pub others_answered : (clock : ℕ) (f : Frame) (s : Served) → is_dcp f.opcode ≡ false → Always AnyCall (λ t. t.dcp ≡ s.dcp) (frame_handled clock f s)
unfolding frame_handled
others_answered clock f s own =
    either (Always AnyCall (λ t. t.dcp ≡ s.dcp)) (f.magic == RESPONSE) (Done s) (if is_dcp f.opcode then Done (handed f s) else frame_answered clock f s) refl
    (subst (λ b. Always AnyCall (λ t. t.dcp ≡ s.dcp) (if b then Done (handed f s) else frame_answered clock f s)) (sym own)
    (request_unhanded clock f (request_of s.session.settings.json f) s))

-- ---- all that is handed up

-- what was handed up is a request of DCP
IsOurs : Served → Type 0
IsOurs t = (f : Frame) → t.dcp ≡ Some f → (f.magic ≢ RESPONSE) × (is_dcp f.opcode ≡ true)

none_ours : (s : Served) → s.dcp ≡ None → IsOurs s
unfolding IsOurs
none_ours s none f e = absurd (cc (sym e ∙ none))

handed_ours : (f : Frame) (s : Served) → (f.magic == RESPONSE) ≡ false → is_dcp f.opcode ≡ true → IsOurs (handed f s)
unfolding IsOurs
handed_ours f s asks dcp g e = subst (λ h. (h.magic ≢ RESPONSE) × (is_dcp h.opcode ≡ true)) (same f g e) (λ r. cc (sym asks ∙ eq-eqb f.magic RESPONSE r), dcp)
  where
    same : (f g : Frame) → Some f ≡ Some g → f ≡ g
    same f g e = cc

frame_ours : (clock : ℕ) (f : Frame) (s : Served) → IsOurs s → Always AnyCall IsOurs (frame_handled clock f s)
unfolding frame_handled IsOurs
frame_ours clock f s ours = by (f.magic == RESPONSE) (is_dcp f.opcode) refl refl
  where
    same : (t : Served) → t.dcp ≡ s.dcp → IsOurs t
    same t e g h = ours g (sym e ∙ h)

    by : (response dcp : Bool) → (f.magic == RESPONSE) ≡ response → is_dcp f.opcode ≡ dcp
        → Always AnyCall IsOurs (if response then Done s else if dcp then Done (handed f s) else frame_answered clock f s)
    by true dcp r d = ours
    by false true r d = handed_ours f s r d
    by false false r d =
        let request = request_of s.session.settings.json f in
        always_so AnyReply AnyCall (λ t. t.dcp ≡ s.dcp) IsOurs (request_handled clock f request s) same (request_unhanded clock f request s)

pub bytes_ours : (clock : ℕ) (piece : List ℕ) (s : Served) → s.dcp ≡ None
    → Always AnyCall (λ t. (f : Frame) → t.dcp ≡ Some f → (f.magic ≢ RESPONSE) × (is_dcp f.opcode ≡ true)) (bytes_handled clock piece s)
unfolding IsOurs
bytes_ours clock piece s none =
    bytes_keep AnyReply AnyCall IsOurs clock (λ f t first p. frame_ours clock f (front_of f t) p) (λ fault t first p. p) piece s (none_ours s none) (none_ours s none)

pub outcome_ours : (clock : ℕ) (r : Resolved) (s : Served) → s.dcp ≡ None
    → Always AnyCall (λ t. (f : Frame) → t.dcp ≡ Some f → (f.magic ≢ RESPONSE) × (is_dcp f.opcode ≡ true)) (outcome_handled clock r s)
unfolding IsOurs
outcome_ours clock r s none =
    outcome_keeps AnyReply AnyCall IsOurs clock (λ f t first p. frame_ours clock f (front_of f t) p) (λ fault t first p. p) r s (none_ours s none) (λ a e. none_ours s none)

-- ---- the first frame of the bytes

pub first_handed : (clock : ℕ) (piece : List ℕ) (f : Frame) (s : Served) → s.session.closed ≡ false → is_held s ≡ false
    → first_frame (s.session.reader ++ piece) ≡ Some (Ok f) → f.magic ≢ RESPONSE → is_dcp f.opcode ≡ true
    → bytes_handled clock piece s ≡ Done (handed f (with_bytes (drop (frame_len f) (s.session.reader ++ piece)) s))
first_handed clock piece f s live free first asks dcp =
    let rest : Served = with_bytes (drop (frame_len f) (s.session.reader ++ piece)) s in
    is_opened clock piece s live ∙ turns_frame clock (with_bytes (s.session.reader ++ piece) s) f free first
    ∙ ap (λ p. bind p (turns_handled clock)) (handed_up clock f rest asks dcp) ∙ turns_waiting clock (handed f rest) refl

-- ---- the bytes behind a frame that was handed up are fewer

Leaves : ℕ → Served → Type 0
Leaves n t = (f : Frame) → t.dcp ≡ Some f → length t.session.reader < n

Fewer : ℕ → Served → Type 0
Fewer clock s = s.dcp ≡ None → Always AnyCall (Leaves (length s.session.reader)) (turns_handled clock s)

-- where nothing is handed up
none_handed : (n : ℕ) (t : Served) → t.dcp ≡ None → Leaves n t
unfolding Leaves
none_handed n t none f e = cc

fewer_done : (clock : ℕ) (s t : Served) → turns_handled clock s ≡ Done t → t.dcp ≡ None → Always AnyCall (Leaves (length s.session.reader)) (turns_handled clock s)
fewer_done clock s t e none = subst (Always AnyCall (Leaves (length s.session.reader))) (sym e) (none_handed (length s.session.reader) t none)

leaves_more : (n m : ℕ) (t : Served) → n < m → Leaves n t → Leaves m t
unfolding Leaves
leaves_more n m t less leaves f e = omega (arith, less, leaves f e)

fewer_behind : (clock : ℕ) (s t : Served) (o : Option Frame) → length t.session.reader < length s.session.reader → Fewer clock t → t.dcp ≡ o
    → Always AnyCall (Leaves (length s.session.reader)) (turns_handled clock t)
unfolding Fewer Leaves
fewer_behind clock s t None less later e =
    always_so AnyReply AnyCall (Leaves (length t.session.reader)) (Leaves (length s.session.reader)) (turns_handled clock t)
    (λ u leaves. leaves_more (length t.session.reader) (length s.session.reader) u less leaves) (later e)
fewer_behind clock s t (Some f) less later e =
    subst (Always AnyCall (Leaves (length s.session.reader))) (sym (turns_waiting clock t (handed_holds t f e))) (λ g h. less)

fewer_frame : (clock : ℕ) (s : Served) (f : Frame) → is_held s ≡ false → first_frame s.session.reader ≡ Some (Ok f)
    → ((t : Served) → t.session.reader ≡ drop (frame_len f) s.session.reader → Fewer clock t) → Always AnyCall (Leaves (length s.session.reader)) (turns_handled clock s)
fewer_frame clock s f free first later =
    let start : Served = with_bytes (drop (frame_len f) s.session.reader) s in
    subst (Always AnyCall (Leaves (length s.session.reader))) (sym (turns_frame clock s f free first))
    (always_bind AnyReply AnyCall (Stays start) (Leaves (length s.session.reader)) (frame_handled clock f start) (turns_handled clock)
    (frame_stays start clock f start (record { who = refl; reader = refl; closed = refl }))
    (λ t stays. fewer_behind clock s t t.dcp (subst (λ r. length r < length s.session.reader) (sym stays.reader) (behind_fewer s.session.reader f first)) (later t stays.reader) refl))

fewer : (clock : ℕ) (s : Served) → Fewer clock s
unfolding Fewer
fewer clock = by_turns
    (Fewer clock)
    (λ s held none. fewer_done clock s s (turns_waiting clock s held) none)
    (λ s free e none. fewer_done clock s s (turns_none clock s free e) none)
    (λ s fault free e none. fewer_done clock s _ (turns_fault clock s fault free e) none)
    (λ s f free e later none. fewer_frame clock s f free e later)

fewer_by : (clock : ℕ) (piece : List ℕ) (s : Served) (closed : Bool) → s.session.closed ≡ closed → s.dcp ≡ None
    → Always AnyCall (Leaves (length (s.session.reader ++ piece))) (bytes_handled clock piece s)
unfolding Fewer
fewer_by clock piece s true e none =
    subst (Always AnyCall (Leaves (length (s.session.reader ++ piece)))) (sym (is_closed clock piece s e)) (none_handed (length (s.session.reader ++ piece)) s none)
fewer_by clock piece s false e none =
    subst (Always AnyCall (Leaves (length (s.session.reader ++ piece)))) (sym (is_opened clock piece s e)) (fewer clock (with_bytes (s.session.reader ++ piece) s) none)

pub bytes_fewer : (clock : ℕ) (piece : List ℕ) (s : Served) → s.dcp ≡ None
    → Always AnyCall (λ t. (f : Frame) → t.dcp ≡ Some f → length t.session.reader < length (s.session.reader ++ piece)) (bytes_handled clock piece s)
unfolding Leaves
bytes_fewer clock piece s none = fewer_by clock piece s s.session.closed refl none

-- and so where they were served
pub ran_fewer : {W : Type 0} (step : W → ℕ → VbCall → Option VbReply → W → Type 0) (clock : ℕ) (piece : List ℕ) (s : Served) (old : W) (t : Served) (new : W) → s.dcp ≡ None
    → Ran step (bytes_handled clock piece s) old t new → (f : Frame) → t.dcp ≡ Some f → length t.session.reader < length (s.session.reader ++ piece)
ran_fewer step clock piece s old t new none ran =
    ran_always step (λ u. (f : Frame) → u.dcp ≡ Some f → length u.session.reader < length (s.session.reader ++ piece)) (bytes_handled clock piece s) old t new (bytes_fewer clock piece s none) ran
