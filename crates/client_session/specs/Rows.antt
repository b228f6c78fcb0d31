-- what a client's requests get, in the words of the protocol
use Rattle.std.specs.Prelude.{◌≡◌, ◌↔◌, ℕ, if◌then◌else◌, List, [], ◌∷◌, ◌++◌, Option, Some, None, Result, Ok, IsTrue, IsFalse}
use Rattle.std.specs.List.{Contains}
use Rattle.mcbp_frame.specs.declared.frame.Frame.{Frame}
use Rattle.mcbp_kv.specs.Answers.{IsBare, IsStored, IsWelcome, seqno_extras}
use Rattle.mcbp_kv.specs.declared.feature.Feature.{Feature}
use Rattle.mcbp_kv.specs.declared.request.KvRequest.{KvRequest}
use Rattle.mcbp_kv.specs.declared.request.KvRequest.TheVariants as request
use Rattle.vb_events.specs.declared.event.Event.{Event}
use Rattle.vb_types.specs.declared.status.Status.{Status}
use Rattle.vb_calls.specs.declared.calls.Resolution.{Resolution}
use Rattle.vb_calls.specs.declared.calls.Resolution.TheVariants as resolution
use Rattle.vb_calls.specs.declared.calls.VbCall.{VbCall}
use Rattle.vb_calls.specs.declared.calls.VbCall.TheVariants.{Durable}
use Rattle.vb_calls.specs.Plain.{Plain}
use Rattle.vb_calls.specs.Programs.{Prog, Done}
use Rattle.vb_calls.specs.State.{is_active}
use Rattle.vb_calls.specs.States.{States}
use Rattle.client_session.specs.declared.session.Settings.{Settings}
use Rattle.client_session.specs.Conduct.{sent}
use Rattle.client_session.specs.Serving.{Served, with_lines, bytes_handled}

-- nothing changes but that these lines of changes come, and then the line of an answer of this kind
pub record Gets (Is : Frame → Type 0) (changes : List Event) (old new : Served) : Type 0 where
  pub frame : Frame
  pub is : Is frame
  pub told : new ≡ with_lines old (changes ++ sent old.session.who frame ∷ [])

-- an answer of this kind without any call
abbrev pub GetsAtOnce : (Frame → Type 0) → Served → Prog Served → Type 0
GetsAtOnce Is old prog = (new : Served) × (prog ≡ Done new) × Gets Is [] old new

-- a HELLO for features of these numbers: the answer has those that are accepted, and the settings are those of these numbers alone
pub record Greets (codes : List ℕ) (f : Frame) (features : List Feature) (old new : Served) : Type 0 where
  pub frame : Frame
  pub is : IsWelcome frame f.opaque features
  pub told : new.events ≡ old.events ++ sent old.session.who frame ∷ []
  pub json : IsTrue new.session.settings.json ↔ Contains codes 0x0b
  pub seqnos : IsTrue new.session.settings.seqnos ↔ Contains codes 0x04

-- any request but HELLO, or one that is refused
abbrev pub IsNoGreeting : Result KvRequest Status → Type 0
IsNoGreeting (Ok (request.Hello features)) = ⊥
IsNoGreeting other = Unit {0}

-- a request for a document, or for a change of it that is not to be durable
abbrev pub IsForDocument : KvRequest → Type 0
IsForDocument (request.Get key) = Unit {0}
IsForDocument (request.Write write None) = Unit {0}
IsForDocument other = ⊥

-- there is no such vBucket, or it is not active
abbrev pub IsNotServing : Option Plain → Type 0
IsNotServing None = Unit {0}
IsNotServing (Some plain) = IsFalse (is_active plain.role)

-- a request is answered NotMyVbucket, and all vBuckets are as they were
pub record NotMyVb (f : Frame) (old : Served) (before : States) (end : States × Served) : Type 0 where
  pub answered : Gets (λ g. IsBare g f.opcode 0x07 f.opaque) [] old end.1
  pub unchanged : (v : ℕ) → end.0 v ≡ before v

-- the extras of a write that was made: its branch and seqno, where the client asked for them
abbrev pub seqno_part : Settings → ℕ → ℕ → List ℕ
seqno_part settings uuid seq = if settings.seqnos then seqno_extras uuid seq else []

-- the answer to a durable write of this opcode and opaque: a commit is a Success with its CAS, and with its branch and seqno where the client asked for them; SyncWriteAmbiguous where it is not known what stands
abbrev pub IsOutcome : Settings → ℕ → ℕ → Resolution → Frame → Type 0
IsOutcome settings opcode opaque (resolution.Committed uuid seq cas) f = IsStored f opcode opaque cas (seqno_part settings uuid seq)
IsOutcome settings opcode opaque resolution.Ambiguous f = IsBare f opcode 0xa3 opaque

-- what is awaited is answered by a frame of this kind and awaited no more, and then the bytes behind it are served as if they came now
pub record Settles (Is : Frame → Type 0) (clock : ℕ) (old : Served) (prog : Prog Served) : Type 0 where
  pub frame : Frame
  pub is : Is frame
  pub told : prog
      ≡ bytes_handled clock old.session.reader
      (record old { session = record old.session { awaited = None; reader = [] }; events = old.events ++ sent old.session.who frame ∷ [] })

-- a durable write whose outcome this waiter waits for, and which is given up at this number of the clock
abbrev pub WaitsAs : ℕ → ℕ → VbCall → Type 0
WaitsAs waiter deadline (Durable write time level at number) = (at ≡ deadline) × (number ≡ waiter)
WaitsAs waiter deadline other = ⊥
