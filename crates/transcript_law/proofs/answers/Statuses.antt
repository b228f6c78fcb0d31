-- what a client's producer answers to a message is what the law says of it
use Rattle.std.specs.Prelude.{◌≡◌, ◌==◌, ◌||◌, codes, if◌then◌else◌, is_some, nat_lt}
use Rattle.std.specs.Option.{option_map}
use Rattle.std.specs.Str.{bytes_eq}
use Rattle.transcript_law.proofs.Words.{ℕ, Bool, true, false, List, refl, sym, ap, ◌∙◌, subst, arith, nat_tests, Option, Some, None, Frame, Status, Role, LogEntry, DcpMsg, controlled, is_name}
use Rattle.dcp_producer.specs.Serving.{as_before, flag_of, named_by, open_refusal, sized, status_frame}
use Rattle.dcp_producer.specs.Sizes.{size_of}
use Rattle.dcp_producer.specs.declared.desk.Handshake.{Handshake}
use Rattle.dcp_producer.specs.declared.desk.Handshake.TheVariants as handshake
use Rattle.dcp_producer.specs.declared.desk.Named.{Named}
use Rattle.transcript_law.proofs.indexers.Setting.{SIZE}
use Rattle.transcript_law.proofs.invariant.ClientsTold.{setup_of}
use Rattle.transcript_law.specs.LawfulMessages.{FitsOnceOpen, FitsOpen, IsStatus, control_status, is_a_name, is_flag, is_size, open_status}
use Rattle.transcript_law.specs.StreamsTold.{ClientStream}

-- a status alone is that
pub alone : (f : Frame) (st : Status) → IsStatus f (status_frame f st) st
alone f st = record {
  header = record { magic = refl; opcode = refl; key = refl; datatype = refl; status = refl; opaque = refl; framing = refl };
  cas = refl;
  extras = refl;
  value = refl;
}

-- by another name of it
pub alone_as : (f : Frame) (st said : Status) → said ≡ st → IsStatus f (status_frame f st) said
alone_as f st said is = subst (IsStatus f (status_frame f st)) (sym is) (alone f st)

-- a message but OPEN and a request for a stream, by whether its connection is open
pub once_open : (opened : Bool) (role : Option (Option Role)) (log : Option (List LogEntry)) (stream : Option ClientStream) (f g : Frame) (m : DcpMsg) → (opened ≡ true → FitsOpen role log stream f g m) → (opened ≡ false → IsStatus f g Status.Einval)
    → FitsOnceOpen opened role log stream f g m
once_open true role log stream f g m over before = over refl
once_open false role log stream f g m over before = before refl

-- ---- OPEN

-- by why it is refused
abbrev pub status_if : Option Status → Status
status_if None = Status.Success
status_if (Some st) = st

fresh_status : (flags : ℕ) (a b c : Bool) → nat_lt 1 flags ≡ a → (flags == 0) ≡ b → (flags == 1) ≡ c
    → (if c then Status.Success else if b then Status.NotSupported else Status.Einval) ≡ status_if (if a then Some Status.Einval else if b then Some Status.NotSupported else None)
fresh_status flags true b true ea eb ec = absurd (grind (arith, nat_tests, ea, ec))
fresh_status flags true true false ea eb ec = absurd (grind (arith, nat_tests, ea, eb))
fresh_status flags true false false ea eb ec = refl
fresh_status flags false true true ea eb ec = absurd (grind (arith, nat_tests, eb, ec))
fresh_status flags false true false ea eb ec = refl
fresh_status flags false false true ea eb ec = refl
fresh_status flags false false false ea eb ec = absurd (grind (arith, nat_tests, ea, eb, ec))

again_status : (b : Bool) → status_if (if b then Some Status.Einval else Some Status.Einval) ≡ Status.Einval
again_status true = refl
again_status false = refl

pub open_is : (set : Handshake) (flags : ℕ) → open_status (setup_of set).opened flags ≡ status_if (open_refusal set flags)
open_is handshake.Fresh flags = fresh_status flags (nat_lt 1 flags) (flags == 0) (flags == 1) refl refl refl
open_is (handshake.Open sync called) flags = sym (again_status (nat_lt 1 flags))

-- ---- CONTROL

some_mapped : {A B : Type 0} (h : A → B) (o : Option A) → is_some (option_map h o) ≡ is_some o
some_mapped h None = refl
some_mapped h (Some x) = refl

some_flag : (a b : Bool) → is_some (if a then Some true else if b then Some false else None) ≡ (a || b)
some_flag true b = refl
some_flag false true = refl
some_flag false false = refl

flag_some : (value : List ℕ) → is_some (flag_of value) ≡ is_flag value
flag_some value = some_flag (bytes_eq value (codes "true")) (bytes_eq value (codes "false"))

name_some : (b : Bool) (set : Handshake) → is_some (if b then Some set else None) ≡ b
name_some true set = refl
name_some false set = refl

-- a key but that of the window, by which one it is
key_by : (sync : Bool) (called : Named) (value : List ℕ) (a b c d : Bool) → (let set = handshake.Open sync called in
    is_some (if a then option_map (λ flag. handshake.Open flag called) (flag_of value) else if b then (if is_name value then Some (handshake.Open sync (named_by value)) else None)
    else if c then as_before set (flag_of value) else if d then as_before set (size_of value) else None)
    ≡ (if a then is_flag value else if b then is_a_name value else if c then is_flag value else if d then is_size value else false))
key_by sync called value true b c d = some_mapped (λ flag. handshake.Open flag called) (flag_of value) ∙ flag_some value
key_by sync called value false true c d = name_some (is_name value) (handshake.Open sync (named_by value))
key_by sync called value false false true d = some_mapped (λ flag. handshake.Open sync called) (flag_of value) ∙ flag_some value
key_by sync called value false false false true = some_mapped (λ size. handshake.Open sync called) (size_of value)
key_by sync called value false false false false = refl

-- by what it sets
abbrev pub set_status : Bool → Status
set_status set = if set then Status.Success else Status.Einval

pub control_is : (set : Handshake) (key value : List ℕ) → bytes_eq key SIZE ≡ false → (setup_of set).opened ≡ true → control_status key value ≡ set_status (is_some (controlled set key value))
control_is handshake.Fresh key value other opened = cc
control_is (handshake.Open sync called) key value other opened =
    ap set_status (ap (λ b. if b then is_size value else if bytes_eq key (codes "enable_sync_writes") then is_flag value else if bytes_eq key (codes "consumer_name") then is_a_name value
    else if bytes_eq key (codes "enable_noop") then is_flag value else if bytes_eq key (codes "set_noop_interval") then is_size value else false) other
    ∙ sym (key_by sync called value (bytes_eq key (codes "enable_sync_writes")) (bytes_eq key (codes "consumer_name")) (bytes_eq key (codes "enable_noop")) (bytes_eq key (codes "set_noop_interval"))))

-- nothing is set before OPEN
pub control_fresh : (set : Handshake) (key value : List ℕ) → (setup_of set).opened ≡ false → controlled set key value ≡ None
control_fresh handshake.Fresh key value shut = refl
control_fresh (handshake.Open sync called) key value shut = cc

-- the window's size
pub size_is : (set : Handshake) (key value : List ℕ) → bytes_eq key SIZE ≡ true → (setup_of set).opened ≡ true → control_status key value ≡ set_status (is_some (sized set value))
size_is handshake.Fresh key value it opened = cc
size_is (handshake.Open sync called) key value it opened =
    ap (λ b. set_status (if b then is_size value else if bytes_eq key (codes "enable_sync_writes") then is_flag value else if bytes_eq key (codes "consumer_name") then is_a_name value
    else if bytes_eq key (codes "enable_noop") then is_flag value else if bytes_eq key (codes "set_noop_interval") then is_size value else false)) it

pub size_fresh : (set : Handshake) (value : List ℕ) → (setup_of set).opened ≡ false → sized set value ≡ None
size_fresh handshake.Fresh value shut = refl
size_fresh (handshake.Open sync called) value shut = cc
