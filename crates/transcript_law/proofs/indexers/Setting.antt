-- what OPEN and CONTROL set at a client's producer is what its frames are known to have set
use Rattle.std.specs.Prelude.{◌≡◌, ◌==◌, ◌&&◌, ◌∷◌, ◌+◌, ◌-◌, codes, if◌then◌else◌, nat_lt}
use Rattle.std.proofs.lemmas.Slice.Eq.{bytes_eq-Decides}
use Rattle.std.specs.Str.{bytes_eq}
use Rattle.transcript_law.proofs.Words.{ℕ, Bool, true, false, List, refl, sym, ap, ◌∙◌, subst, arith, nat_tests, Option, Some, None, [], option_map, is_name}
use Rattle.dcp_producer.specs.Producers.{is_named, is_open, is_sync}
use Rattle.dcp_producer.specs.Serving.{as_before, controlled, flag_of, is_digit, named_by, open_refusal}
use Rattle.dcp_producer.specs.Sizes.{size_of}
use Rattle.dcp_producer.specs.declared.desk.Handshake.{Handshake}
use Rattle.dcp_producer.specs.declared.desk.Handshake.TheVariants as handshake
use Rattle.dcp_producer.specs.declared.desk.Named.{Named}
use Rattle.dcp_producer.specs.declared.desk.Named.TheVariants as named
use Rattle.mcbp_dcp.specs.declared.message.DcpMsg.TheVariants as msg
use Rattle.transcript_law.proofs.invariant.ClientsTold.{setup_of}
use Rattle.transcript_law.specs.ClientFrames.{is_sync as setup_sync, set_by, with_name, with_sync}
use Rattle.transcript_law.specs.StreamsTold.{Setup, no_setup}
use Rattle.vb_types.specs.declared.status.Status.{Status}

-- every name that a consumer gives is one
member_or : (b : Bool) (k : ℕ) → is_named (if b then named.Member k else named.Stranger) ≡ true
member_or true k = refl
member_or false k = refl

name_given : (value : List ℕ) → is_named (named_by value) ≡ true
name_given [] = refl
name_given (n ∷ []) = refl
name_given (n ∷ d ∷ []) = member_or (n == 110 && is_digit 9 d) (d - 48)
name_given (n ∷ one ∷ d ∷ []) = member_or ((n == 110 && one == 49) && is_digit 5 d) (10 + (d - 48))
name_given (n ∷ one ∷ d ∷ e ∷ more) = refl

-- ---- OPEN

-- the handshake behind OPEN, by why it is refused
abbrev pub opened_as : Option Status → Handshake → Handshake
opened_as None set = handshake.Open false named.Nobody
opened_as (Some st) set = set

fresh_sets : (flags : ℕ) (a b c : Bool) → nat_lt 1 flags ≡ a → (flags == 0) ≡ b → (flags == 1) ≡ c
    → (if c then record { opened = true; sync = false; named = false } else no_setup)
    ≡ setup_of (opened_as (if a then Some Status.Einval else if b then Some Status.NotSupported else None) handshake.Fresh)
fresh_sets flags true b true ea eb ec = absurd (grind (arith, nat_tests, ea, ec))
fresh_sets flags true b false ea eb ec = refl
fresh_sets flags false true true ea eb ec = absurd (grind (arith, nat_tests, eb, ec))
fresh_sets flags false true false ea eb ec = refl
fresh_sets flags false false true ea eb ec = refl
fresh_sets flags false false false ea eb ec = absurd (grind (arith, nat_tests, ea, eb, ec))

again_opened : (b : Bool) (set : Setup) → set.opened ≡ true → (if b then record set { opened = true } else set) ≡ set
again_opened true set is = λ i. record set { opened = sym is i }
again_opened false set is = refl

refused_set : (b : Bool) (set : Handshake) → opened_as (if b then Some Status.Einval else Some Status.Einval) set ≡ set
refused_set true set = refl
refused_set false set = refl

pub open_sets : (set : Handshake) (number flags : ℕ) (name : List ℕ) → set_by (Some (msg.Open number flags name)) (setup_of set) ≡ setup_of (opened_as (open_refusal set flags) set)
open_sets handshake.Fresh number flags name = fresh_sets flags (nat_lt 1 flags) (flags == 0) (flags == 1) refl refl refl
open_sets (handshake.Open sync called) number flags name = again_opened (flags == 1) (setup_of (handshake.Open sync called)) refl ∙ ap setup_of (sym (refused_set (nat_lt 1 flags) (handshake.Open sync called)))

-- ---- CONTROL

-- what it was, where nothing was set
abbrev pub kept_or : Option Handshake → Handshake → Handshake
kept_or None set = set
kept_or (Some new) set = new

-- the size of the window
abbrev pub SIZE : List ℕ
SIZE = codes "connection_buffer_size"

sync_sets : (sync : Bool) (called : Named) (a b : Bool)
    → (let s = setup_of (handshake.Open sync called) in if a then record s { sync = true } else if b then record s { sync = false } else s)
    ≡ setup_of (kept_or (option_map (λ flag. handshake.Open flag called) (if a then Some true else if b then Some false else None)) (handshake.Open sync called))
sync_sets sync called true b = refl
sync_sets sync called false true = refl
sync_sets sync called false false = refl

name_sets : (sync : Bool) (called : Named) (value : List ℕ) (b : Bool)
    → (let s = setup_of (handshake.Open sync called) in if b then record s { named = true } else s)
    ≡ setup_of (kept_or (if b then Some (handshake.Open sync (named_by value)) else None) (handshake.Open sync called))
name_sets sync called value true = λ i. record { opened = true; sync = sync; named = sym (name_given value) i }
name_sets sync called value false = refl

same_sets : {T : Type 0} (set : Handshake) (o : Option T) → kept_or (as_before set o) set ≡ set
same_sets set None = refl
same_sets set (Some x) = refl

other_sets : (set : Handshake) (value : List ℕ) (a b : Bool) → kept_or (if a then as_before set (flag_of value) else if b then as_before set (size_of value) else None) set ≡ set
other_sets set value true b = same_sets set (flag_of value)
other_sets set value false true = same_sets set (size_of value)
other_sets set value false false = refl

control_by : (sync : Bool) (called : Named) (value : List ℕ) (a b c d : Bool) → (let s = setup_of (handshake.Open sync called) in let set = handshake.Open sync called in
    (if a then with_sync value s else if b then with_name value s else s)
    ≡ setup_of (kept_or (if a then option_map (λ flag. handshake.Open flag called) (flag_of value) else if b then (if is_name value then Some (handshake.Open sync (named_by value)) else None)
    else if c then as_before set (flag_of value) else if d then as_before set (size_of value) else None) set))
control_by sync called value true b c d = sync_sets sync called (bytes_eq value (codes "true")) (bytes_eq value (codes "false"))
control_by sync called value false true c d = name_sets sync called value (is_name value)
control_by sync called value false false c d = ap setup_of (sym (other_sets (handshake.Open sync called) value c d))

pub control_sets : (set : Handshake) (key value : List ℕ) → set_by (Some (msg.Control key value)) (setup_of set) ≡ setup_of (kept_or (controlled set key value) set)
control_sets handshake.Fresh key value = refl
control_sets (handshake.Open sync called) key value =
    control_by sync called value (bytes_eq key (codes "enable_sync_writes")) (bytes_eq key (codes "consumer_name")) (bytes_eq key (codes "enable_noop")) (bytes_eq key (codes "set_noop_interval"))

-- the size of the window is no part of it
pub size_sets : (set : Handshake) (key value : List ℕ) → bytes_eq key SIZE ≡ true → set_by (Some (msg.Control key value)) (setup_of set) ≡ setup_of set
size_sets handshake.Fresh key value is = refl
size_sets (handshake.Open sync called) key value is = subst (λ k. set_by (Some (msg.Control k value)) (setup_of (handshake.Open sync called)) ≡ setup_of (handshake.Open sync called)) (sym ((bytes_eq-Decides key SIZE).0 is)) refl

-- ---- what is set, as it is read

pub open_as : (set : Handshake) → (setup_of set).opened ≡ is_open set
open_as handshake.Fresh = refl
open_as (handshake.Open sync called) = refl

pub sync_as : (set : Handshake) → setup_sync (setup_of set) ≡ is_sync set
sync_as handshake.Fresh = refl
sync_as (handshake.Open sync called) = refl
