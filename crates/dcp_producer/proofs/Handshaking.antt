-- what OPEN and CONTROL are answered
use Rattle.std.proofs.Common.{◌≡◌, ◌<◌, ◌^◌, ℕ, Bool, true, false, List, length, refl, sym, ap, ◌∙◌, subst, ◌⊎◌, inl, inr, arith, Option, Some, None}
use Rattle.std.proofs.lemmas.Bool.{and_parts}
use Rattle.std.proofs.lemmas.Bool.Decides.{nat_tests}
use Rattle.std.proofs.lemmas.Slice.Eq.{bytes_eq-Decides}
use Rattle.std.specs.Option.{option_map, ok_or}
use Rattle.std.specs.Prelude.{if◌then◌else◌, ◌==◌, nat_lt, nat_le, codes, decimal}
use Rattle.std.specs.Str.{bytes_eq}
use Rattle.mcbp_frame.specs.declared.frame.Frame.{Frame}
use Rattle.mcbp_dcp.specs.declared.message.DcpMsg.TheVariants as msg
use Rattle.vb_types.specs.declared.status.Status.{Status}
use Rattle.vb_types.specs.declared.status.Status.TheVariants as status
use Rattle.vb_types.specs.Statuses.{status_code}
use Rattle.vb_calls.specs.Programs.{Done}
use Rattle.dcp_producer.specs.declared.desk.Handshake.{Handshake}
use Rattle.dcp_producer.specs.declared.desk.Handshake.TheVariants as handshake
use Rattle.dcp_producer.specs.declared.desk.Named.{Named}
use Rattle.dcp_producer.specs.declared.desk.Named.TheVariants as named
use Rattle.dcp_producer.specs.Producers.{Served}
use Rattle.dcp_producer.specs.Serving.{status_frame, status_sent, with_handshake, set_answered, opened, open_refusal, opened_unless, is_name, named_by, as_before, flag_of, set_by, controlled, controlled_as, sized, sized_as, with_window_size, control_answered, message_answered}
use Rattle.dcp_producer.specs.Sizes.{size_of}
use Rattle.dcp_producer.specs.Having.{IsOpened}
use Rattle.dcp_producer.specs.Handshaking.{Gets, Sizes, IsName, IsFlag, IsKnown, IsSize}
use Rattle.dcp_producer.proofs.Decimals.{sizes}

-- OPEN and CONTROL are answered by what they set
pub open_set : (refused : Option Status) (f : Frame) (s : Served) → set_answered (opened refused) f s ≡ opened_unless refused f s
open_set None f s = refl
open_set (Some st) f s = refl

pub control_set : (set : Option Handshake) (f : Frame) (s : Served) → set_answered (ok_or set status.Einval) f s ≡ controlled_as set f s
control_set None f s = refl
control_set (Some h) f s = refl

-- a status alone
gets_set : (f : Frame) (st : Status) (s : Served) (shaken : Handshake) → Gets (status_code st) shaken f s (Done (status_sent f st (with_handshake s shaken)))
unfolding status_sent
gets_set f st s shaken = record {
  frame = status_frame f st;
  is = record {
    header = record { magic = refl; opcode = refl; key = refl; datatype = refl; status = refl; opaque = refl; framing = refl };
    cas = refl;
    extras = refl;
    value = refl;
  };
  answered = refl;
}

-- what it is answered is that
gets_so : (code : ℕ) (shaken : Handshake) (f : Frame) (s a b : Served) → a ≡ b → Gets code shaken f s (Done b) → Gets code shaken f s (Done a)
gets_so code shaken f s a b is gets = record { frame = gets.frame; is = gets.is; answered = ap (λ t. Done t) is ∙ gets.answered }

pub refused_alone : (f : Frame) (st : Status) (s : Served) → Gets (status_code st) s.end.handshake f s (Done (status_sent f st s))
refused_alone f st s = gets_set f st s s.end.handshake

-- OPEN
open_einval : (h : Handshake) (flags : ℕ) → (h ≡ handshake.Fresh → ⊥) ⊎ (1 < flags) → open_refusal h flags ≡ Some status.Einval
open_einval handshake.Fresh flags (inl other) = absurd (other refl)
open_einval handshake.Fresh flags (inr above) =
    let e : nat_lt 1 flags ≡ true = grind (arith, nat_tests) in
    ap (λ b. if b then Some status.Einval else if flags == 0 then Some status.NotSupported else None) e
open_einval (handshake.Open sync name) flags either = either_way (nat_lt 1 flags)
  where
    either_way : (b : Bool) → (if b then Some status.Einval else Some status.Einval) ≡ Some status.Einval
    either_way true = refl
    either_way false = refl

module _ (f : Frame) (number : ℕ) (name : List ℕ) (s : Served) where
  pub opens_refused : (flags : ℕ) → IsOpened s ⊎ (1 < flags) → Gets 4 s.end.handshake f s (message_answered f (msg.Open number flags name) s)
  opens_refused flags either =
      gets_so 4 s.end.handshake f s (opened_unless (open_refusal s.end.handshake flags) f s) (status_sent f status.Einval s)
      (ap (λ o. opened_unless o f s) (open_einval s.end.handshake flags either)) (refused_alone f status.Einval s)

  pub opens_unsupported : s.end.handshake ≡ handshake.Fresh → Gets 0x83 handshake.Fresh f s (message_answered f (msg.Open number 0 name) s)
  opens_unsupported fresh =
      subst (λ h. Gets 0x83 h f s (message_answered f (msg.Open number 0 name) s)) fresh
      (gets_so 0x83 s.end.handshake f s (opened_unless (open_refusal s.end.handshake 0) f s) (status_sent f status.NotSupported s)
      (ap (λ h. opened_unless (open_refusal h 0) f s) fresh) (refused_alone f status.NotSupported s))

  pub opens_once : s.end.handshake ≡ handshake.Fresh → Gets 0 (handshake.Open false named.Nobody) f s (message_answered f (msg.Open number 1 name) s)
  opens_once fresh =
      gets_so 0 (handshake.Open false named.Nobody) f s (opened_unless (open_refusal s.end.handshake 1) f s) (status_sent f status.Success (with_handshake s (handshake.Open false named.Nobody)))
      (ap (λ h. opened_unless (open_refusal h 1) f s) fresh) (gets_set f status.Success s (handshake.Open false named.Nobody))

-- equal bytes
same_bytes : (xs ys : List ℕ) → bytes_eq xs ys ≡ true → xs ≡ ys
same_bytes xs ys is = (bytes_eq-Decides xs ys).0 is

is_named : (value : List ℕ) → is_name value ≡ true → IsName value
is_named value is = let (some, few) = and_parts (nat_le 1 (length value)) (nat_le (length value) 250) is in (grind (arith, nat_tests), grind (arith, nat_tests))

-- a value that is no flag, and one that is no size
no_flag : (value : List ℕ) → (IsFlag value → ⊥) → flag_of value ≡ None
no_flag value none = by (bytes_eq value (codes "true")) (bytes_eq value (codes "false")) refl refl
  where
    by : (a b : Bool) → bytes_eq value (codes "true") ≡ a → bytes_eq value (codes "false") ≡ b → (if a then Some true else if b then Some false else None) ≡ None
    by true b on off = absurd (none (inl (same_bytes value (codes "true") on)))
    by false true on off = absurd (none (inr (same_bytes value (codes "false") off)))
    by false false on off = refl

no_size : (value : List ℕ) (o : Option ℕ) → size_of value ≡ o → (IsSize value → ⊥) → o ≡ None
no_size value None is none = refl
no_size value (Some n) is none = let (says, fits) = (sizes value n).0 is in absurd (none (n, fits, says))

module _ (sync : Bool) (name : Named) (key value : List ℕ) (unknown : IsKnown key value → ⊥) where
  set_unknown : set_by sync name key value ≡ None
  set_unknown = by (bytes_eq key (codes "enable_sync_writes")) (bytes_eq key (codes "consumer_name")) (bytes_eq key (codes "enable_noop")) (bytes_eq key (codes "set_noop_interval")) refl refl refl refl
    where
      named : (b : Bool) → is_name value ≡ b → bytes_eq key (codes "consumer_name") ≡ true → (if b then Some (handshake.Open sync (named_by value)) else None) ≡ None
      named true is key_is = absurd (unknown (inl (same_bytes key (codes "consumer_name") key_is, is_named value is)))
      named false is key_is = refl

      by : (a b c d : Bool) → bytes_eq key (codes "enable_sync_writes") ≡ a → bytes_eq key (codes "consumer_name") ≡ b → bytes_eq key (codes "enable_noop") ≡ c → bytes_eq key (codes "set_noop_interval") ≡ d
          → (if a then option_map (λ flag. handshake.Open flag name) (flag_of value)
          else if b then (if is_name value then Some (handshake.Open sync (named_by value)) else None)
          else if c then as_before (handshake.Open sync name) (flag_of value)
          else if d then as_before (handshake.Open sync name) (size_of value)
          else None) ≡ None
      by true b c d is_a is_b is_c is_d = ap (option_map (λ flag. handshake.Open flag name)) (no_flag value (λ flag. unknown (inr (inl (same_bytes key (codes "enable_sync_writes") is_a, flag)))))
      by false true c d is_a is_b is_c is_d = named (is_name value) refl is_b
      by false false true d is_a is_b is_c is_d = ap (as_before (handshake.Open sync name)) (no_flag value (λ flag. unknown (inr (inr (inr (inl (same_bytes key (codes "enable_noop") is_c, flag)))))))
      by false false false true is_a is_b is_c is_d = ap (as_before (handshake.Open sync name)) (no_size value (size_of value) refl (λ size. unknown (inr (inr (inr (inr (same_bytes key (codes "set_noop_interval") is_d, size)))))))
      by false false false false is_a is_b is_c is_d = refl

-- OPEN came
not_fresh : (sync : Bool) (name : Named) → handshake.Open sync name ≡ handshake.Fresh → ⊥
not_fresh sync name e = subst Fresh (sym e) tt
  where
    Fresh : Handshake → Type 0
    Fresh handshake.Fresh = Unit {0}
    Fresh (handshake.Open sync' name') = ⊥

controlled_unknown : (h : Handshake) (key value : List ℕ) → (h ≡ handshake.Fresh) ⊎ (IsKnown key value → ⊥) → controlled h key value ≡ None
controlled_unknown handshake.Fresh key value either = refl
controlled_unknown (handshake.Open sync name) key value (inl fresh) = absurd (not_fresh sync name fresh)
controlled_unknown (handshake.Open sync name) key value (inr unknown) = set_unknown sync name key value unknown

-- CONTROL of the window with a value that is no size
sized_unknown : (h : Handshake) (value : List ℕ) → (h ≡ handshake.Fresh) ⊎ (IsSize value → ⊥) → sized h value ≡ None
sized_unknown handshake.Fresh value either = refl
sized_unknown (handshake.Open sync name) value (inl fresh) = absurd (not_fresh sync name fresh)
sized_unknown (handshake.Open sync name) value (inr none) = no_size value (size_of value) refl none

-- the same of one with a key of the handshake, or with that of the window
none_known : (h : Handshake) (key value : List ℕ) → (h ≡ handshake.Fresh) ⊎ (IsKnown key value → ⊥) → key ≡ codes "connection_buffer_size" → (h ≡ handshake.Fresh) ⊎ (IsSize value → ⊥)
none_known h key value (inl fresh) is = inl fresh
none_known h key value (inr unknown) is = inr (λ size. unknown (inr (inr (inl (is, size)))))

pub control_refused : (f : Frame) (s : Served) (key value : List ℕ) → (s.end.handshake ≡ handshake.Fresh) ⊎ (IsKnown key value → ⊥) → control_answered f key value s ≡ status_sent f status.Einval s
control_refused f s key value either = by (bytes_eq key (codes "connection_buffer_size")) refl
  where
    by : (b : Bool) → bytes_eq key (codes "connection_buffer_size") ≡ b
        → (if b then sized_as (sized s.end.handshake value) f s else controlled_as (controlled s.end.handshake key value) f s) ≡ status_sent f status.Einval s
    by true is = ap (λ o. sized_as o f s) (sized_unknown s.end.handshake value (none_known s.end.handshake key value either (same_bytes key (codes "connection_buffer_size") is)))
    by false is = ap (λ o. controlled_as o f s) (controlled_unknown s.end.handshake key value either)

module _ (f : Frame) (s : Served) where
  -- CONTROL that sets this
  set_so : (key value : List ℕ) (h : Handshake) → bytes_eq key (codes "connection_buffer_size") ≡ false → controlled s.end.handshake key value ≡ Some h → Gets 0 h f s (message_answered f (msg.Control key value) s)
  set_so key value h other is =
      gets_so 0 h f s (control_answered f key value s) (status_sent f status.Success (with_handshake s h))
      (ap (λ b. if b then sized_as (sized s.end.handshake value) f s else controlled_as (controlled s.end.handshake key value) f s) other ∙ ap (λ o. controlled_as o f s) is)
      (gets_set f status.Success s h)

  pub controls_refused : (key value : List ℕ) → (s.end.handshake ≡ handshake.Fresh) ⊎ (IsKnown key value → ⊥) → Gets 4 s.end.handshake f s (message_answered f (msg.Control key value) s)
  controls_refused key value either =
      gets_so 4 s.end.handshake f s (control_answered f key value s) (status_sent f status.Einval s) (control_refused f s key value either) (refused_alone f status.Einval s)

  -- of the window
  size_set : (size : ℕ) → Sizes size f s (Done (status_sent f status.Success (with_window_size size s)))
  unfolding status_sent
  size_set size = record {
    frame = status_frame f status.Success;
    is = record {
      header = record { magic = refl; opcode = refl; key = refl; datatype = refl; status = refl; opaque = refl; framing = refl };
      cas = refl;
      extras = refl;
      value = refl;
    };
    answered = refl;
  }

  module _ (sync : Bool) (name : Named) (opened : s.end.handshake ≡ handshake.Open sync name) where
    pub controls_name : (value : List ℕ) → IsName value → Gets 0 (handshake.Open sync (named_by value)) f s (message_answered f (msg.Control (codes "consumer_name") value) s)
    controls_name value (some, few) =
        let e : is_name value ≡ true = grind (arith, nat_tests) in
        set_so (codes "consumer_name") value (handshake.Open sync (named_by value)) refl
        (ap (λ h. controlled h (codes "consumer_name") value) opened ∙ ap (λ b. if b then Some (handshake.Open sync (named_by value)) else None) e)

    pub controls_on : Gets 0 (handshake.Open true name) f s (message_answered f (msg.Control (codes "enable_sync_writes") (codes "true")) s)
    controls_on = set_so (codes "enable_sync_writes") (codes "true") (handshake.Open true name) refl (ap (λ h. controlled h (codes "enable_sync_writes") (codes "true")) opened)

    pub controls_off : Gets 0 (handshake.Open false name) f s (message_answered f (msg.Control (codes "enable_sync_writes") (codes "false")) s)
    controls_off = set_so (codes "enable_sync_writes") (codes "false") (handshake.Open false name) refl (ap (λ h. controlled h (codes "enable_sync_writes") (codes "false")) opened)

    pub controls_size : (n : ℕ) → n < 2 ^ 32 → Sizes n f s (message_answered f (msg.Control (codes "connection_buffer_size") (decimal n)) s)
    controls_size n fits =
        let is : sized s.end.handshake (decimal n) ≡ Some n = ap (λ h. sized h (decimal n)) opened ∙ (sizes (decimal n) n).1 (refl, fits) in
        let set = size_set n in
        record { frame = set.frame; is = set.is; answered = ap (λ o. Done (sized_as o f s)) is ∙ set.answered }

    -- a control of a key that changes nothing
    kept : (key value : List ℕ) → bytes_eq key (codes "connection_buffer_size") ≡ false → set_by sync name key value ≡ Some (handshake.Open sync name) → Gets 0 s.end.handshake f s (message_answered f (msg.Control key value) s)
    kept key value other is =
        subst (λ h. Gets 0 h f s (message_answered f (msg.Control key value) s)) (sym opened)
        (set_so key value (handshake.Open sync name) other (ap (λ h. controlled h key value) opened ∙ is))

    pub controls_noop : (value : List ℕ) → IsFlag value → Gets 0 s.end.handshake f s (message_answered f (msg.Control (codes "enable_noop") value) s)
    controls_noop value (inl on) = kept (codes "enable_noop") value refl (ap (λ v. as_before (handshake.Open sync name) (flag_of v)) on)
    controls_noop value (inr off) = kept (codes "enable_noop") value refl (ap (λ v. as_before (handshake.Open sync name) (flag_of v)) off)

    pub controls_interval : (n : ℕ) → n < 2 ^ 32 → Gets 0 s.end.handshake f s (message_answered f (msg.Control (codes "set_noop_interval") (decimal n)) s)
    controls_interval n fits = kept (codes "set_noop_interval") (decimal n) refl (ap (as_before (handshake.Open sync name)) ((sizes (decimal n) n).1 (refl, fits)))
