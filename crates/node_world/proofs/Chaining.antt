-- a vBucket's chain, and the prepares that it gives up
use Rattle.std.proofs.Common.{◌≡◌, ℕ, Bool, true, false, [], ◌∷◌, refl, sym, ap, ◌∙◌, subst, Option, Some, None, is_some}
use Rattle.std.specs.Prelude.{if◌then◌else◌, not}
use Rattle.durability.specs.Chains.{Links, Members, chain_of, is_chain}
use Rattle.vb_events.specs.declared.event.Cause.{Cause}
use Rattle.vb_events.specs.declared.event.Cause.TheVariants as cause
use Rattle.vb_types.specs.declared.status.Status.TheVariants as status
use Rattle.vb_calls.specs.declared.calls.VbAnswer.TheVariants as answer
use Rattle.vb_calls.specs.declared.calls.VbCall.TheVariants as call
use Rattle.vb_calls.specs.declared.calls.VbReply.{VbReply}
use Rattle.vb_calls.specs.Settling.{and_settled}
use Rattle.vb_calls.specs.Programs.{Ran, after, alone_step}
use Rattle.vb_calls.specs.Roles.{promoted}
use Rattle.vb_calls.specs.State.{Plain, is_active, quiet_reply, refusal_reply}
use Rattle.vb_calls.specs.States.{States, call_at, stepped_at}
use Rattle.vb_calls.proofs.Readings.{alone_after}
use Rattle.vbucket.specs.Stands.{SlotsStand}
use Rattle.node_core.specs.Flushing.{activity_requested, activity_of_reply, chain_changed, settled_result}
use Rattle.node_world.specs.declared.script_node.ScriptNode.{ScriptNode}
use Rattle.node_world.specs.declared.told.Told.{Told}
use Rattle.node_world.specs.Ends.{Carries, KeepsEnds, RefusesChain}
use Rattle.node_world.specs.Nodes.{PlainNode, bad_chain_cause, bad_chain_causes, chain_line, chain_made, first_cause, is_active_one, refusal, refused_or, settled, with_states}
use Rattle.node_world.specs.Stands.{MemNode, NodeMatch, node_number}
use Rattle.node_world.proofs.Nodes.{inside, vbs_keep, vbs_match}
use Rattle.node_world.proofs.Shelved.{vb_again}

-- whether there is a vBucket, and whether it is active
abbrev pub activity_in : Option Plain → Option Bool
activity_in None = None
activity_in (Some vb) = Some (is_active vb.role)

-- the call that asks for it changes nothing
pub activity_is : (states : States) (v : ℕ) → after (activity_requested v) states ≡ (states, activity_in (states v))
activity_is states v = by (states v) refl
  where
    Came : States × Option VbReply → States × Option Bool
    Came x = (x.0, activity_of_reply x.1)

    refused : (vb : Plain) → states v ≡ Some vb → (b : Bool) → is_active vb.role ≡ b
        → Came (stepped_at states v (promoted (if b then Some status.NotMyVbucket else Some status.Einval) vb 0)) ≡ (states, Some b)
    refused vb here true e = ap (λ s. (s, Some true)) (vb_again states v vb here)
    refused vb here false e = ap (λ s. (s, Some false)) (vb_again states v vb here)

    by : (o : Option Plain) → states v ≡ o → Came (call_at states v (call.Promote 0) o) ≡ (states, activity_in o)
    by None e = refl
    by (Some vb) e = refused vb e (is_active vb.role) refl

-- the first cause to refuse a chain that can't be one
why_bad : (v : ℕ) (plain : PlainNode) → first_cause (bad_chain_causes v plain) ≡ Some (bad_chain_cause (activity_in (plain.vbs v)))
why_bad v plain = by (plain.vbs v)
  where
    either : (b : Bool) → first_cause ((not b, cause.WrongRole) ∷ (true, cause.ChainBad) ∷ []) ≡ Some (bad_chain_cause (Some b))
    either true = refl
    either false = refl

    by : (o : Option Plain) → first_cause ((not (is_some o), cause.UnknownVb) ∷ (not (is_active_one o), cause.WrongRole) ∷ (true, cause.ChainBad) ∷ []) ≡ Some (bad_chain_cause (activity_in o))
    by None = refl
    by (Some vb) = either (is_active vb.role)

pub refuses_chain : (old : ScriptNode) (v : ℕ) (active : Option Bool) (why : Cause) (node : MemNode) → Ran (alone_step SlotsStand) (activity_requested v) old.node.vbs active node.vbs → node ≡ record old.node { vbs = node.vbs }
    → why ≡ bad_chain_cause active → RefusesChain v old why (inside old node)
refuses_chain old v active why node ran rest is plain stands =
    let known = alone_after SlotsStand (activity_requested v) old.node.vbs active node.vbs ran plain.vbs stands.slots in
    let same = activity_is plain.vbs v in (
      vbs_match old node rest plain plain.vbs (subst (λ (x : States × Option Bool). SlotsStand node.vbs x.0) same known.1) stands,
      ap Some (is ∙ ap bad_chain_cause (known.0 ∙ ap (λ (x : States × Option Bool). x.1) same)) ∙ sym (why_bad v plain),
      vbs_keep old node rest,
    )

-- the chain of these members
abbrev made : ℕ → Members → Links
made n others = record { active = n; others = others }

-- members that can't be a chain
no_chain : (n : ℕ) (others : Members) (b : Bool) → is_chain n others ≡ b → chain_of n others ≡ None → is_chain n others ≡ false
no_chain n others true e none = let no : Some (made n others) ≡ None = sym (ap (λ c. if c then Some (made n others) else None) e) ∙ none in cc
no_chain n others false e none = e

pub chain_refused : (v : ℕ) (others : Members) (old new : ScriptNode) (why : Cause) (told : Told) → chain_of (node_number old) others ≡ None → RefusesChain v old why new → told ≡ refusal why
    → Carries (chain_line (node_number old) v others) old told new
chain_refused v others old new why told none refuses says plain stands =
    let n = node_number old in
    let (alike, first, keeps) = refuses plain stands in
    let bad : is_chain n others ≡ false = no_chain n others (is_chain n others) refl none in
    let same : chain_line n v others plain ≡ (plain, refusal why) =
    ap (λ b. refused_or (first_cause ((not (is_some (plain.vbs v)), cause.UnknownVb) ∷ (not (is_active_one (plain.vbs v)), cause.WrongRole) ∷ (not b, cause.ChainBad) ∷ [])) plain (chain_made n v others plain)) bad
    ∙ ap (λ o. refused_or o plain (chain_made n v others plain)) (sym first) in
    subst (λ (x : PlainNode × Told). NodeMatch new x.0 × (told ≡ x.1) × KeepsEnds old new) (sym same) (alike, says, keeps)

-- members that are a chain: the vBucket refuses it for the same causes
module _ (n v : ℕ) (others : Members) (plain : PlainNode) (good : is_chain n others ≡ true) where
  abbrev chain : Links
  chain = record { active = n; others = others }

  -- by what stands at v
  abbrev made_of : States × Option VbReply → PlainNode × Told
  made_of x = settled plain (x.0, settled_result n v x.1)

  abbrev line_of : Bool → Bool → Bool → PlainNode × Told
  line_of a b c = refused_or (first_cause ((not a, cause.UnknownVb) ∷ (not b, cause.WrongRole) ∷ (not c, cause.ChainBad) ∷ [])) plain (chain_made n v others plain)

  by_role : (vb : Plain) → plain.vbs v ≡ Some vb → (b : Bool) → is_active vb.role ≡ b
      → line_of true b (is_chain n others) ≡ made_of (stepped_at plain.vbs v (if b then and_settled (record vb { others = others }, quiet_reply answer.Done) else (vb, refusal_reply status.NotMyVbucket)))
  by_role vb here true e =
      ap (λ c. line_of true true c) good ∙ ap (λ o. made_of (call_at plain.vbs v (call.Chain chain) o)) here
      ∙ ap (λ b. made_of (stepped_at plain.vbs v (if b then and_settled (record vb { others = others }, quiet_reply answer.Done) else (vb, refusal_reply status.NotMyVbucket)))) e
  by_role vb here false e = ap (λ s. (with_states plain s, refusal cause.WrongRole)) (sym (vb_again plain.vbs v vb here))

  by_vb : (o : Option Plain) → plain.vbs v ≡ o → line_of (is_some o) (is_active_one o) (is_chain n others) ≡ made_of (call_at plain.vbs v (call.Chain chain) o)
  by_vb None e = refl
  by_vb (Some vb) e = by_role vb e (is_active vb.role) refl

  chain_is : chain_line n v others plain ≡ chain_made n v others plain
  chain_is = by_vb (plain.vbs v) refl

-- members that are a chain
is_one : (n : ℕ) (others : Members) (chain : Links) (b : Bool) → is_chain n others ≡ b → chain_of n others ≡ Some chain → (is_chain n others ≡ true) × (chain ≡ record { active = n; others = others })
is_one n others chain true e some =
    let same : Some (record { active = n; others = others }) ≡ Some chain = sym (ap (λ c. if c then Some (record { active = n; others = others }) else None) e) ∙ some in
    let is : record { active = n; others = others } ≡ chain = cc in
    (e, sym is)
is_one n others chain false e some = let no : None ≡ Some chain = sym (ap (λ c. if c then Some (record { active = n; others = others }) else None) e) ∙ some in cc

pub chain_carried : (v : ℕ) (others : Members) (chain : Links) (old new : ScriptNode) (told : Told) → chain_of (node_number old) others ≡ Some chain
    → Carries (λ plain. settled plain (after (chain_changed (node_number old) v chain) plain.vbs)) old told new → Carries (chain_line (node_number old) v others) old told new
chain_carried v others chain old new told some went plain stands =
    let n = node_number old in
    let (good, is) = is_one n others chain (is_chain n others) refl some in
    subst (λ (x : PlainNode × Told). NodeMatch new x.0 × (told ≡ x.1) × KeepsEnds old new) (sym (chain_is n v others plain good))
    (subst (λ (links : Links). NodeMatch new (settled plain (after (chain_changed n v links) plain.vbs)).0 × (told ≡ (settled plain (after (chain_changed n v links) plain.vbs)).1) × KeepsEnds old new) is (went plain stands))
