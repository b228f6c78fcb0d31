-- what a client's frame asks, by the tests of its reasons to be refused
use Rattle.std.proofs.Common.{◌≡◌, ℕ, Bool, true, false, List, [], ◌∷◌, Option, Some, None, Ok, Err, Result, length, refl, ap, sym, ◌∙◌, inl, inr, cond}
use Rattle.std.specs.Prelude.{not, nat_lt, is_some, option_map}
use Rattle.std.specs.Bool.{Decides}
use Rattle.std.specs.Result.{result_err, result_unwrap_or}
use Rattle.std.proofs.lemmas.Bool.{false_from_ne_true}
use Rattle.mcbp_frame.specs.declared.frame.Frame.{Frame}
use Rattle.vb_types.specs.declared.change.Level.{Level}
use Rattle.vb_types.specs.declared.key.TheConstants.{MAX_VALUE}
use Rattle.vb_types.specs.declared.status.Status.{Status}
use Rattle.vb_types.specs.declared.status.Status.TheVariants as status
use Rattle.vb_types.specs.Levels.{level_of}
use Rattle.mcbp_kv.specs.Durable.{timeout_named, within}
use Rattle.mcbp_kv.specs.Framing.{requirement_of}
use Rattle.mcbp_kv.specs.Refusals.{IsHeaded, IsFramed, IsRefusedInOrder}
use Rattle.mcbp_kv.specs.Requests.{is_one_of, client_opcodes, write_opcodes, is_datatype, known_or_invalid, required_of, durable_of, has_shape, when, first_of, request_by, refused_or_asks, request_of}
use Rattle.mcbp_kv.specs.Shapes.{IsCommandCode, HasForm}
use Rattle.mcbp_kv.specs.declared.durable.Durability.{Durability}
use Rattle.mcbp_kv.specs.declared.framing.Requirement.{Requirement}
use Rattle.mcbp_kv.specs.declared.request.KvRequest.{KvRequest}
use Rattle.mcbp_kv.proofs.Shapes.{command_code, write_code, level_decides, datatype_decides, form_decides, long_decides}

-- what is read, by four tests and what is required
abbrev read_by : Frame → Bool → Bool → Result (Option Durability) Status → Bool → Bool → Result KvRequest Status
read_by f code datatype durable shape long =
    refused_or_asks (first_of (when (not code) status.UnknownCommand ∷ when (not datatype) status.Einval ∷ result_err durable ∷ when (not shape) status.Einval ∷ when long status.E2big ∷ []))
    (result_unwrap_or durable None) f

is_read : (json : Bool) (f : Frame) (code datatype : Bool) (durable : Result (Option Durability) Status) (shape long : Bool)
    → is_one_of f.opcode client_opcodes ≡ code → is_datatype json f.datatype ≡ datatype → durable_of f ≡ durable
    → has_shape f.opcode f ≡ shape → nat_lt MAX_VALUE (length f.value) ≡ long
    → request_of json f ≡ read_by f code datatype durable shape long
unfolding request_of
is_read json f code datatype durable shape long c d r s b = λ i. read_by f (c i) (d i) (r i) (s i) (b i)

refuted : {P : Type 0} (t : Bool) → Decides t P → (P → ⊥) → t ≡ false
refuted t d lacks = false_from_ne_true t (λ e. lacks (d.0 e))

-- ---- what is required

-- by the test of the opcode and by the level that is named
abbrev required_by : Bool → Option Level → ℕ → Result (Option Durability) Status
required_by write named timeout = cond (not write) (Err status.NotSupported) (known_or_invalid (option_map (λ level. within level (timeout_named timeout)) named))

pub required_read : (opcode : ℕ) (framing : List ℕ) (r : Requirement) → requirement_of framing ≡ Ok (Some r) → (write : Bool) (named : Option Level)
    → is_one_of opcode write_opcodes ≡ write → level_of r.level ≡ named
    → required_of opcode (requirement_of framing) ≡ required_by write named r.timeout
required_read opcode framing r h write named w n = ap (required_of opcode) h ∙ (λ i. required_by (w i) (n i) r.timeout)

none_there : (named : Option Level) → is_some named ≡ false → named ≡ None
none_there None h = refl
none_there (Some level) h = absurd (cc h)

some_there : (named : Option Level) → is_some named ≡ true → (level : Level) × (named ≡ Some level)
some_there None h = absurd (cc h)
some_there (Some level) h = (level, refl)

-- framing extras that are not refused require something, or nothing
framed : (f : Frame) → IsFramed f → (durable : Option Durability) × (durable_of f ≡ Ok durable)
framed f (inl none) = (None, ap (required_of f.opcode) none)
framed f (inr h) =
    let (level, named) = some_there (level_of h.requirement.level) ((level_decides h.requirement.level).1 h.level) in
    (Some (within level (timeout_named h.requirement.timeout)), required_read f.opcode f.framing h.requirement h.required true (Some level) ((write_code f.opcode).1 h.opcode) named)

-- ---- what no earlier reason refuses

headed : (json : Bool) (f : Frame) → IsHeaded json f → (durable : Result (Option Durability) Status) (shape long : Bool)
    → durable_of f ≡ durable → has_shape f.opcode f ≡ shape → nat_lt MAX_VALUE (length f.value) ≡ long
    → request_of json f ≡ read_by f true true durable shape long
headed json f head durable shape long r s b =
    is_read json f true true durable shape long ((command_code f.opcode).1 head.opcode) ((datatype_decides json f.datatype).1 head.datatype) r s b

formed : (f : Frame) → IsCommandCode f.opcode → HasForm f → has_shape f.opcode f ≡ true
formed f opcode form = (form_decides f ((command_code f.opcode).1 opcode)).1 form

pub refused_in_order : (json : Bool) (f : Frame) → IsRefusedInOrder json f
refused_in_order json f = record {
  opcode = λ lacks. is_read json f false _ _ _ _ (refuted _ (command_code f.opcode) lacks) refl refl refl refl;
  datatype = λ code lacks. is_read json f true false _ _ _ ((command_code f.opcode).1 code) (refuted _ (datatype_decides json f.datatype) lacks) refl refl refl;
  framing = λ head faulty h. headed json f head (Err faulty) _ _ (ap (required_of f.opcode) h) refl refl;
  no_write = λ head r h lacks. headed json f head (Err status.NotSupported) _ _ (required_read f.opcode f.framing r h false _ (refuted _ (write_code f.opcode) lacks) refl) refl refl;
  no_level = λ head r h write lacks.
      headed json f head (Err status.DurabilityInvalidLevel) _ _
      (required_read f.opcode f.framing r h true None ((write_code f.opcode).1 write) (none_there _ (refuted _ (level_decides r.level) lacks))) refl refl;
  form = λ head fr lacks. let (durable, d) = framed f fr in headed json f head (Ok durable) false _ d (refuted _ (form_decides f ((command_code f.opcode).1 head.opcode)) lacks) refl;
  size = λ head fr form long. let (durable, d) = framed f fr in headed json f head (Ok durable) true true d (formed f head.opcode form) ((long_decides f.value).1 long);
  none = λ head fr form short.
      let (durable, d) = framed f fr in
      (request_by f.opcode durable f, headed json f head (Ok durable) true false d (formed f head.opcode form) (refuted _ (long_decides f.value) short));
}

-- ---- and the other way round

-- what a frame that is not refused passed
pub record Passed (json : Bool) (f : Frame) (r : KvRequest) : Type 0 where
  pub durable : Option Durability
  pub code : is_one_of f.opcode client_opcodes ≡ true
  pub datatype : is_datatype json f.datatype ≡ true
  pub framing : durable_of f ≡ Ok durable
  pub shape : has_shape f.opcode f ≡ true
  pub size : nat_lt MAX_VALUE (length f.value) ≡ false
  pub asks : request_by f.opcode durable f ≡ r

pub read_passed : (json : Bool) (f : Frame) (r : KvRequest) → Passed json f r → request_of json f ≡ Ok r
read_passed json f r p = is_read json f true true (Ok p.durable) true false p.code p.datatype p.framing p.shape p.size ∙ ap Ok p.asks

read_tests : (f : Frame) (code datatype : Bool) (durable : Result (Option Durability) Status) (shape long : Bool) (r : KvRequest) → read_by f code datatype durable shape long ≡ Ok r
    → (d : Option Durability) × (code ≡ true) × (datatype ≡ true) × (durable ≡ Ok d) × (shape ≡ true) × (long ≡ false) × (request_by f.opcode d f ≡ r)
read_tests f false datatype durable shape long r h = absurd (cc h)
read_tests f true false durable shape long r h = absurd (cc h)
read_tests f true true (Err st) shape long r h = absurd (cc h)
read_tests f true true (Ok d) false long r h = absurd (cc h)
read_tests f true true (Ok d) true true r h = absurd (cc h)
read_tests f true true (Ok d) true false r h = (d, refl, refl, refl, refl, refl, cc h)

pub passed : (json : Bool) (f : Frame) (r : KvRequest) → request_of json f ≡ Ok r → Passed json f r
passed json f r h =
    let t = read_tests f _ _ _ _ _ r (sym (is_read json f _ _ _ _ _ refl refl refl refl refl) ∙ h) in
    record { durable = t.0; code = t.1; datatype = t.2; framing = t.3; shape = t.4; size = t.5; asks = t.6 }
