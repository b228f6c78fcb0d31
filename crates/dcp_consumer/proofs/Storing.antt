-- which messages of sets and removals are taken in
use Rattle.std.proofs.Common.{◌≡◌, ℕ, ◌⊎◌, List, refl, ap, sym, ◌∙◌, inl, inr, ⊎_elim}
use Rattle.std.specs.Prelude.{◌↔◌, Option, Some, None}
use Rattle.std.specs.Option.{option_map}
use Rattle.mcbp_frame.specs.Frames.{first_frame, frame_of}
use Rattle.mcbp_dcp.specs.declared.message.Deletion.{Deletion}
use Rattle.mcbp_dcp.specs.declared.message.DcpMsg.TheVariants as msg
use Rattle.mcbp_dcp.specs.declared.message.Mutation.{Mutation}
use Rattle.mcbp_dcp.specs.Messages.{read_of}
use Rattle.mcbp_dcp.specs.Rows.{frame_row}
use Rattle.mcbp_dcp.specs.Shapes.{shape_fault}
use Rattle.vb_types.specs.Limits.{IsKey, IsValue, key_of, value_of}
use Rattle.vb_types.specs.declared.change.Act.TheVariants as act
use Rattle.vb_types.specs.declared.change.Change.{Change}
use Rattle.vb_types.specs.declared.role.Role.{Role}
use Rattle.vb_calls.specs.declared.calls.VbCall.TheVariants as call
use Rattle.dcp_consumer.specs.PassiveStreams.{call_of_message, called, mutation_doc, passive_of, remove_change, set_change}
use Rattle.dcp_consumer.specs.Receiving.{BytesCome, IsRemoved, IsStored, typed_bytes, typed_call}
use Rattle.dcp_consumer.specs.declared.passive_stream.Passive.{Passive}
use Rattle.dcp_consumer.specs.declared.passive_stream.Passive.TheVariants as passive
use Rattle.dcp_consumer.proofs.Receiving.{key_is, value_is, key_found, value_found, not_both, same_call}

-- what the parts that were found come to
abbrev stores : Mutation → Option (List ℕ) → Option (List ℕ) → Passive
stores m k v = called (option_map call.Receive (set_change m k v))

abbrev stored : Mutation → Change
stored m = record { seq = m.seq; key = m.key; act = act.Set (mutation_doc m m.value) }

none_stored : (m : Mutation) (k v : Option (List ℕ)) → (k ≡ None) ⊎ (v ≡ None) → stores m k v ≡ passive.Protocol
none_stored m (Some k) (Some v) (inl e) = cc
none_stored m (Some k) (Some v) (inr e) = cc
none_stored m k v e = refl

store_so : (m : Mutation) → IsKey m.key → IsValue m.value → stores m (key_of m.key) (value_of m.value) ≡ passive.Call (call.Receive (stored m))
store_so m k v = λ i. stores m (key_found m.key k i) (value_found m.value v i)

-- a mutation comes to the change that it is, or to none
store_case : (m : Mutation)
    → ((stores m (key_of m.key) (value_of m.value) ≡ passive.Call (call.Receive (stored m))) × IsKey m.key × IsValue m.value)
    ⊎ ((stores m (key_of m.key) (value_of m.value) ≡ passive.Protocol) × ((IsKey m.key → ⊥) ⊎ (IsValue m.value → ⊥)))
store_case m = ⊎_elim
    (λ k. ⊎_elim
    (λ v. inl (store_so m k.1 v.1, k.1, v.1))
    (λ v. inr (none_stored m (key_of m.key) (value_of m.value) (inr v.0), inr v.1))
    (value_is m.value))
    (λ k. inr (none_stored m (key_of m.key) (value_of m.value) (inl k.0), inl k.1))
    (key_is m.key)

pub sets : (m : Mutation) (c : Change) → (passive_of (msg.Mutation m) ≡ passive.Call (call.Receive c)) ↔ IsStored m c
unfolding call_of_message
sets m c = (
  λ e. ⊎_elim
      (λ x. record { key = x.1; value = x.2; change = same_call (stores m (key_of m.key) (value_of m.value)) c (stored m) e x.0 })
      (λ x. absurd (not_both (stores m (key_of m.key) (value_of m.value)) c e x.0))
      (store_case m),
  λ is. store_so m is.key is.value ∙ ap (λ y. passive.Call (call.Receive y)) (sym is.change),
)

not_two : (m : Mutation) → IsKey m.key → IsValue m.value → (IsKey m.key → ⊥) ⊎ (IsValue m.value → ⊥) → ⊥
not_two m k v (inl none) = none k
not_two m k v (inr none) = none v

pub unset : (m : Mutation) → (passive_of (msg.Mutation m) ≡ passive.Protocol) ↔ ((IsKey m.key → ⊥) ⊎ (IsValue m.value → ⊥))
unfolding call_of_message
unset m = (
  λ e. ⊎_elim (λ x. absurd (not_both (stores m (key_of m.key) (value_of m.value)) (stored m) x.0 e)) (λ x. x.1) (store_case m),
  λ none. ⊎_elim (λ x. absurd (not_two m x.1 x.2 none)) (λ x. x.0) (store_case m),
)

-- what the key that was found comes to
abbrev removes_at : Deletion → Option (List ℕ) → Passive
removes_at d k = called (option_map call.Receive (option_map (remove_change d) k))

removal_case : (d : Deletion)
    → ((removes_at d (key_of d.key) ≡ passive.Call (call.Receive (remove_change d d.key))) × IsKey d.key)
    ⊎ ((removes_at d (key_of d.key) ≡ passive.Protocol) × (IsKey d.key → ⊥))
removal_case d = ⊎_elim (λ k. inl (ap (removes_at d) k.0, k.1)) (λ k. inr (ap (removes_at d) k.0, k.1)) (key_is d.key)

pub removes : (d : Deletion) (c : Change) → (passive_of (msg.Deletion d) ≡ passive.Call (call.Receive c)) ↔ IsRemoved d c
unfolding call_of_message
removes d c = (
  λ e. ⊎_elim (λ x. (x.1, same_call (removes_at d (key_of d.key)) c (remove_change d d.key) e x.0)) (λ x. absurd (not_both (removes_at d (key_of d.key)) c e x.0)) (removal_case d),
  λ is. ⊎_elim (λ x. x.0 ∙ ap (λ y. passive.Call (call.Receive y)) (sym is.1)) (λ x. absurd (x.1 is.0)) (removal_case d),
)

pub keyless : (d : Deletion) → (passive_of (msg.Deletion d) ≡ passive.Protocol) ↔ (IsKey d.key → ⊥)
unfolding call_of_message
keyless d = (
  λ e. ⊎_elim (λ x. absurd (not_both (removes_at d (key_of d.key)) (remove_change d d.key) x.0 e)) (λ x. x.1) (removal_case d),
  λ none. ⊎_elim (λ x. absurd (none x.1)) (λ x. x.0) (removal_case d),
)

pub state : (to : Role) → passive_of (msg.SetVbucketState to) ≡ passive.Protocol
unfolding call_of_message
state to = refl

-- byte by byte
pub typed_come : BytesCome (typed_bytes 5) (typed_call 5) × BytesCome (typed_bytes 255) (typed_call 255) × BytesCome (typed_bytes 0) (typed_call 0)
unfolding first_frame frame_of frame_row shape_fault read_of call_of_message
typed_come = ((frame_of (typed_bytes 5), refl, refl), (frame_of (typed_bytes 255), refl, refl), (frame_of (typed_bytes 0), refl, refl))
