-- which messages of durable writes are taken in
use Rattle.std.proofs.Common.{◌≡◌, ℕ, ◌<◌, ◌⊎◌, Bool, true, false, List, [], ◌∷◌, length, refl, ap, sym, ◌∙◌, subst, inl, inr, ⊎_elim, arith}
use Rattle.std.specs.Prelude.{◌↔◌, ◌&&◌, ◌==◌, nat_le, if◌then◌else◌, Option, Some, None}
use Rattle.std.specs.Option.{option_map}
use Rattle.std.proofs.lemmas.Bool.Decides.{nat_tests}
use Rattle.mcbp_frame.specs.Frames.{first_frame, frame_of}
use Rattle.mcbp_dcp.specs.declared.message.DcpMsg.TheVariants as msg
use Rattle.mcbp_dcp.specs.declared.message.Prepare.{Prepare}
use Rattle.mcbp_dcp.specs.declared.message.Resolution.{Resolution}
use Rattle.mcbp_dcp.specs.DurableRows.{no_cas, no_times, prepare_bytes, resolution_bytes, some_value}
use Rattle.mcbp_dcp.specs.MessageRows.{deletion_bytes, end_bytes, four_bytes, marker_bytes, mutation_bytes, no_four}
use Rattle.vb_events.specs.declared.event.EndReason.TheVariants as reason
use Rattle.vb_types.specs.Levels.{level_number, level_of}
use Rattle.mcbp_dcp.specs.Messages.{read_of}
use Rattle.mcbp_dcp.specs.Rows.{frame_row}
use Rattle.mcbp_dcp.specs.Shapes.{shape_fault}
use Rattle.vb_types.proofs.Levels.{numbered, unnumbered}
use Rattle.vb_types.specs.Limits.{IsKey, IsValue, key_of, value_of}
use Rattle.vb_types.specs.declared.change.Act.{Act}
use Rattle.vb_types.specs.declared.change.Act.TheVariants as act
use Rattle.vb_types.specs.declared.change.Change.{Change}
use Rattle.vb_types.specs.declared.change.Level.{Level}
use Rattle.vb_types.specs.declared.change.Level.TheVariants as level
use Rattle.vb_calls.specs.declared.calls.VbCall.TheVariants as call
use Rattle.dcp_consumer.specs.PassiveStreams.{flag_of, prepare_doc, prepare_change, resolved_change, call_of_message, called, passive_of}
use Rattle.dcp_consumer.specs.Receiving.{IsFlag, IsPrepared, IsUnfit, IsResolved, committed, BytesCome, durable_call, durable_doc}
use Rattle.dcp_consumer.specs.declared.passive_stream.Passive.{Passive}
use Rattle.dcp_consumer.specs.declared.passive_stream.Passive.TheVariants as passive

-- ---- the parts of a change

key_by : (key : List ℕ) (b : Bool) → (nat_le 1 (length key) && nat_le (length key) 250) ≡ b → ((key_of key ≡ Some key) × IsKey key) ⊎ ((key_of key ≡ None) × (IsKey key → ⊥))
key_by key true e = inl (ap (λ t. if t then Some key else None) e, (grind (arith, nat_tests), grind (arith, nat_tests)))
key_by key false e = inr (ap (λ t. if t then Some key else None) e, λ k. grind (arith, nat_tests, k.0, k.1))

-- a key, or no key
pub key_is : (key : List ℕ) → ((key_of key ≡ Some key) × IsKey key) ⊎ ((key_of key ≡ None) × (IsKey key → ⊥))
key_is key = key_by key (nat_le 1 (length key) && nat_le (length key) 250) refl

value_by : (value : List ℕ) (b : Bool) → nat_le (length value) 20971520 ≡ b → ((value_of value ≡ Some value) × IsValue value) ⊎ ((value_of value ≡ None) × (IsValue value → ⊥))
value_by value true e = inl (ap (λ t. if t then Some value else None) e, grind (arith, nat_tests))
value_by value false e = inr (ap (λ t. if t then Some value else None) e, λ v. grind (arith, nat_tests, v))

pub value_is : (value : List ℕ) → ((value_of value ≡ Some value) × IsValue value) ⊎ ((value_of value ≡ None) × (IsValue value → ⊥))
value_is value = value_by value (nat_le (length value) 20971520) refl

level_by : (n : ℕ) (o : Option Level) → level_of n ≡ o → ((l : Level) × (level_of n ≡ Some l) × (n ≡ level_number l)) ⊎ ((level_of n ≡ None) × ((n < 1) ⊎ (3 < n)))
level_by n None e = inr (e, (unnumbered n).0 e)
level_by n (Some l) e = inl (l, e, (numbered n l).0 e)

level_is : (n : ℕ) → ((l : Level) × (level_of n ≡ Some l) × (n ≡ level_number l)) ⊎ ((level_of n ≡ None) × ((n < 1) ⊎ (3 < n)))
level_is n = level_by n (level_of n) refl

flag_by : (n : ℕ) (a b : Bool) → (n == 0) ≡ a → (n == 1) ≡ b → ((d : Bool) × (flag_of n ≡ Some d) × IsFlag d n) ⊎ ((flag_of n ≡ None) × (1 < n))
flag_by n true b e g = inl (false, ap (λ t. if t then Some false else if n == 1 then Some true else None) e, grind (arith, nat_tests))
flag_by n false true e g = inl (true, (λ i. if e i then Some false else if g i then Some true else None), grind (arith, nat_tests))
flag_by n false false e g = inr ((λ i. if e i then Some false else if g i then Some true else None), grind (arith, nat_tests))

flag_is : (n : ℕ) → ((d : Bool) × (flag_of n ≡ Some d) × IsFlag d n) ⊎ ((flag_of n ≡ None) × (1 < n))
flag_is n = flag_by n (n == 0) (n == 1) refl refl

flag_back : (d : Bool) (n : ℕ) → IsFlag d n → flag_of n ≡ Some d
flag_back false n e = ap flag_of e
flag_back true n e = ap flag_of e

-- ---- a prepare

-- what the parts that were found come to
abbrev comes : Prepare → Option (List ℕ) → Option (List ℕ) → Option Level → Option Bool → Passive
comes p k v l d = called (option_map call.Receive (prepare_change p k v l d))

none_comes : (p : Prepare) (k v : Option (List ℕ)) (l : Option Level) (d : Option Bool) → (k ≡ None) ⊎ ((v ≡ None) ⊎ ((l ≡ None) ⊎ (d ≡ None))) → comes p k v l d ≡ passive.Protocol
none_comes p (Some k) (Some v) (Some l) (Some d) (inl e) = cc
none_comes p (Some k) (Some v) (Some l) (Some d) (inr (inl e)) = cc
none_comes p (Some k) (Some v) (Some l) (Some d) (inr (inr (inl e))) = cc
none_comes p (Some k) (Some v) (Some l) (Some d) (inr (inr (inr e))) = cc
none_comes p k v l d e = refl

-- a prepare comes to a change that it is, or is unfit
prepare_case : (p : Prepare) → ((c : Change) × (passive_of (msg.Prepare p) ≡ passive.Call (call.Receive c)) × IsPrepared p c) ⊎ ((passive_of (msg.Prepare p) ≡ passive.Protocol) × IsUnfit p)
unfolding call_of_message
prepare_case p = by (key_is p.key) (value_is p.value) (level_is p.level) (flag_is p.deleted)
  where
    by : ((key_of p.key ≡ Some p.key) × IsKey p.key) ⊎ ((key_of p.key ≡ None) × (IsKey p.key → ⊥)) → ((value_of p.value ≡ Some p.value) × IsValue p.value) ⊎ ((value_of p.value ≡ None) × (IsValue p.value → ⊥))
        → ((l : Level) × (level_of p.level ≡ Some l) × (p.level ≡ level_number l)) ⊎ ((level_of p.level ≡ None) × ((p.level < 1) ⊎ (3 < p.level))) → ((d : Bool) × (flag_of p.deleted ≡ Some d) × IsFlag d p.deleted) ⊎ ((flag_of p.deleted ≡ None) × (1 < p.deleted))
        → ((c : Change) × (comes p (key_of p.key) (value_of p.value) (level_of p.level) (flag_of p.deleted) ≡ passive.Call (call.Receive c)) × IsPrepared p c)
        ⊎ ((comes p (key_of p.key) (value_of p.value) (level_of p.level) (flag_of p.deleted) ≡ passive.Protocol) × IsUnfit p)
    by (inl k) (inl v) (inl l) (inl d) = inl (
      record { seq = p.seq; key = p.key; act = act.Prepare l.0 (prepare_doc p p.value) d.0 },
      (λ i. comes p (k.0 i) (v.0 i) (l.1 i) (d.1 i)),
      record { level = l.0; deleted = d.0; change = refl; key = k.1; value = v.1; numbered = l.2; flagged = d.2 },
    )
    by (inr k) v l d = inr (none_comes p _ _ _ _ (inl k.0), inl k.1)
    by (inl k) (inr v) l d = inr (none_comes p _ _ _ _ (inr (inl v.0)), inr (inl v.1))
    by (inl k) (inl v) (inr l) d = inr (none_comes p _ _ _ _ (inr (inr (inl l.0))), inr (inr (inl l.1)))
    by (inl k) (inl v) (inl l) (inr d) = inr (none_comes p _ _ _ _ (inr (inr (inr d.0))), inr (inr (inr d.1)))

-- the parts of a change are found
pub key_found : (key : List ℕ) → IsKey key → key_of key ≡ Some key
key_found key is = ⊎_elim (λ k. k.0) (λ k. absurd (k.1 is)) (key_is key)

pub value_found : (value : List ℕ) → IsValue value → value_of value ≡ Some value
value_found value is = ⊎_elim (λ v. v.0) (λ v. absurd (v.1 is)) (value_is value)

prepare_so : (p : Prepare) (c : Change) → IsPrepared p c → passive_of (msg.Prepare p) ≡ passive.Call (call.Receive c)
unfolding call_of_message
prepare_so p c is =
    (λ i. comes p (key_found p.key is.key i) (value_found p.value is.value i) ((numbered p.level is.level).1 is.numbered i) (flag_back is.deleted p.deleted is.flagged i))
    ∙ ap (λ x. passive.Call (call.Receive x)) (sym is.change)

-- a call is no refusal
pub not_both : (m : Passive) (c : Change) → m ≡ passive.Call (call.Receive c) → m ≡ passive.Protocol → ⊥
not_both m c e g = let both : passive.Call (call.Receive c) ≡ passive.Protocol = sym e ∙ g in cc

-- a call is of one change
pub same_call : (m : Passive) (a b : Change) → m ≡ passive.Call (call.Receive a) → m ≡ passive.Call (call.Receive b) → a ≡ b
same_call m a b e g = let both : passive.Call (call.Receive a) ≡ passive.Call (call.Receive b) = sym e ∙ g in cc

pub prepares : (p : Prepare) (c : Change) → (passive_of (msg.Prepare p) ≡ passive.Call (call.Receive c)) ↔ IsPrepared p c
prepares p c = (
  λ e. ⊎_elim (λ x. subst (IsPrepared p) (same_call (passive_of (msg.Prepare p)) x.0 c x.1 e) x.2) (λ x. absurd (not_both (passive_of (msg.Prepare p)) c e x.0)) (prepare_case p),
  prepare_so p c,
)

-- an unfit prepare is no change
unfit : (p : Prepare) (c : Change) → IsPrepared p c → IsUnfit p → ⊥
unfit p c is (inl k) = k is.key
unfit p c is (inr (inl v)) = v is.value
unfit p c is (inr (inr (inl l))) = let none : level_of p.level ≡ None = (unnumbered p.level).1 l in let some : level_of p.level ≡ Some is.level = (numbered p.level is.level).1 is.numbered in
    let both : Some is.level ≡ None = sym some ∙ none in cc
unfit p c is (inr (inr (inr d))) = flag_above is.deleted p.deleted is.flagged d
  where
    flag_above : (b : Bool) (n : ℕ) → IsFlag b n → 1 < n → ⊥
    flag_above false n e above = omega (arith, e, above)
    flag_above true n e above = omega (arith, e, above)

pub refuses : (p : Prepare) → (passive_of (msg.Prepare p) ≡ passive.Protocol) ↔ IsUnfit p
refuses p = (
  λ e. ⊎_elim (λ x. absurd (not_both (passive_of (msg.Prepare p)) x.0 x.1 e)) (λ x. x.1) (prepare_case p),
  λ u. ⊎_elim (λ x. absurd (unfit p x.0 x.2 u)) (λ x. x.0) (prepare_case p),
)

-- ---- a commit and an abort

-- what the key that was found comes to
abbrev ends : Resolution → Act → Option (List ℕ) → Passive
ends r a k = called (option_map call.Receive (option_map (resolved_change r a) k))

resolution_case : (r : Resolution) (a : Act) → ((ends r a (key_of r.key) ≡ passive.Call (call.Receive (resolved_change r a r.key))) × IsKey r.key) ⊎ ((ends r a (key_of r.key) ≡ passive.Protocol) × (IsKey r.key → ⊥))
resolution_case r a = ⊎_elim (λ k. inl (ap (ends r a) k.0, k.1)) (λ k. inr (ap (ends r a) k.0, k.1)) (key_is r.key)

module _ (r : Resolution) (a : Act) where
  resolves : (c : Change) → (ends r a (key_of r.key) ≡ passive.Call (call.Receive c)) ↔ IsResolved r a c
  resolves c = (
    λ e. ⊎_elim (λ x. (x.1, same_call (ends r a (key_of r.key)) c (resolved_change r a r.key) e x.0)) (λ x. absurd (not_both (ends r a (key_of r.key)) c e x.0)) (resolution_case r a),
    λ is. ⊎_elim (λ x. x.0 ∙ ap (λ y. passive.Call (call.Receive y)) (sym is.1)) (λ x. absurd (x.1 is.0)) (resolution_case r a),
  )

  keyless : (ends r a (key_of r.key) ≡ passive.Protocol) ↔ (IsKey r.key → ⊥)
  keyless = (
    λ e. ⊎_elim (λ x. absurd (not_both (ends r a (key_of r.key)) (resolved_change r a r.key) x.0 e)) (λ x. x.1) (resolution_case r a),
    λ none. ⊎_elim (λ x. absurd (none x.1)) (λ x. x.0) (resolution_case r a),
  )

pub commits : (r : Resolution) (c : Change) → (passive_of (msg.Commit r) ≡ passive.Call (call.Receive c)) ↔ IsResolved r (committed r.prepared) c
unfolding call_of_message
commits r c = resolves r (committed r.prepared) c

pub aborts : (r : Resolution) (c : Change) → (passive_of (msg.Abort r) ≡ passive.Call (call.Receive c)) ↔ IsResolved r (act.Abort r.prepared) c
unfolding call_of_message
aborts r c = resolves r (act.Abort r.prepared) c

pub commit_refused : (r : Resolution) → (passive_of (msg.Commit r) ≡ passive.Protocol) ↔ (IsKey r.key → ⊥)
unfolding call_of_message
commit_refused r = keyless r (committed r.prepared)

pub abort_refused : (r : Resolution) → (passive_of (msg.Abort r) ≡ passive.Protocol) ↔ (IsKey r.key → ⊥)
unfolding call_of_message
abort_refused r = keyless r (act.Abort r.prepared)

pub acknowledgement : (seq : ℕ) → passive_of (msg.SeqnoAcknowledged seq) ≡ passive.Protocol
unfolding call_of_message
acknowledgement seq = refl

-- ---- byte by byte

pub prepare_bytes_come : BytesCome (prepare_bytes 0x27 no_times 0 2 some_value) (durable_call 0x1112131415161718 (act.Prepare level.MajorityPersistActive (durable_doc some_value) false))
unfolding first_frame frame_of frame_row shape_fault read_of call_of_message
prepare_bytes_come = (frame_of (prepare_bytes 0x27 no_times 0 2 some_value), refl, refl)

pub removal_bytes_come : BytesCome (prepare_bytes 0x22 no_times 1 3 []) (durable_call 0x1112131415161718 (act.Prepare level.PersistMajority (durable_doc []) true))
unfolding first_frame frame_of frame_row shape_fault read_of call_of_message
removal_bytes_come = (frame_of (prepare_bytes 0x22 no_times 1 3 []), refl, refl)

pub commit_bytes_come : BytesCome (resolution_bytes 0x62 0 no_cas) (durable_call 0x2122232425262728 (committed 0x1112131415161718))
unfolding first_frame frame_of frame_row shape_fault read_of call_of_message
commit_bytes_come = (frame_of (resolution_bytes 0x62 0 no_cas), refl, refl)

pub abort_bytes_come : BytesCome (resolution_bytes 0x63 0 no_cas) (durable_call 0x2122232425262728 (act.Abort 0x1112131415161718))
unfolding first_frame frame_of frame_row shape_fault read_of call_of_message
abort_bytes_come = (frame_of (resolution_bytes 0x63 0 no_cas), refl, refl)

pub level_bytes : BytesCome (prepare_bytes 0x27 no_times 0 0 some_value) passive.Protocol × BytesCome (prepare_bytes 0x27 no_times 0 4 some_value) passive.Protocol
unfolding first_frame frame_of frame_row shape_fault read_of call_of_message
level_bytes = ((frame_of (prepare_bytes 0x27 no_times 0 0 some_value), refl, refl), (frame_of (prepare_bytes 0x27 no_times 0 4 some_value), refl, refl))

pub flag_bytes : BytesCome (prepare_bytes 0x22 no_times 2 1 []) passive.Protocol × BytesCome (prepare_bytes 0x27 no_times 1 1 some_value) passive.Protocol
unfolding first_frame frame_of frame_row shape_fault read_of call_of_message
flag_bytes = ((frame_of (prepare_bytes 0x22 no_times 2 1 []), refl, refl), (frame_of (prepare_bytes 0x27 no_times 1 1 some_value), refl, refl))

pub set_bytes_come : BytesCome (mutation_bytes no_four 0) (durable_call 0x1112131415161718 (act.Set (durable_doc some_value)))
unfolding first_frame frame_of frame_row shape_fault read_of call_of_message
set_bytes_come = (frame_of (mutation_bytes no_four 0), refl, refl)

pub remove_bytes_come : BytesCome (deletion_bytes 0) (durable_call 0x1112131415161718 (act.Remove 0x3132333435363738 0x2122232425262728))
unfolding first_frame frame_of frame_row shape_fault read_of call_of_message
remove_bytes_come = (frame_of (deletion_bytes 0), refl, refl)

pub marker_bytes_come : BytesCome (marker_bytes four_bytes) (passive.Call (call.Marker 0x1112131415161718 0x2122232425262728))
unfolding first_frame frame_of frame_row shape_fault read_of call_of_message
marker_bytes_come = (frame_of (marker_bytes four_bytes), refl, refl)

pub done_bytes_come : BytesCome (end_bytes (0x00 ∷ 0x00 ∷ 0x00 ∷ 0x00 ∷ [])) (passive.End reason.Done)
unfolding first_frame frame_of frame_row shape_fault read_of call_of_message
done_bytes_come = (frame_of (end_bytes (0x00 ∷ 0x00 ∷ 0x00 ∷ 0x00 ∷ [])), refl, refl)

pub state_bytes_come : BytesCome (end_bytes four_bytes) (passive.End reason.State)
unfolding first_frame frame_of frame_row shape_fault read_of call_of_message
state_bytes_come = (frame_of (end_bytes four_bytes), refl, refl)
