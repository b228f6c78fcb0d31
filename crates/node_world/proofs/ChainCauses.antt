-- why lines are refused that set a chain, that have a vBucket give prepares up, and that count a batch as saved
use Rattle.std.proofs.Common.{◌≡◌, ◌<◌, ℕ, Bool, true, false, List, [], ◌∷◌, ◌++◌, length, refl, ap, sym, ◌∙◌, Option, Some, None, is_some}
use Rattle.std.specs.Prelude.{◌≢◌, ◌==◌, ◌&&◌, nat_le, not, if◌then◌else◌}
use Rattle.std.proofs.lemmas.Bool.{eq-eqb, le-leb, lt-leb, ne_eqb}
use Rattle.durability.specs.Chains.{Members, differ, has_not, is_chain, named}
use Rattle.vb_events.specs.declared.event.Answer.{Answer}
use Rattle.vb_events.specs.declared.event.Answer.TheVariants as answer
use Rattle.vb_events.specs.declared.event.Cause.TheVariants as cause
use Rattle.vb_types.specs.declared.role.Role.{Role}
use Rattle.vb_types.specs.declared.role.Role.TheVariants as role
use Rattle.vb_types.specs.declared.status.Status.TheVariants as status
use Rattle.vb_calls.specs.Durable.{expired, then_settled}
use Rattle.vb_calls.specs.Settling.{and_settled}
use Rattle.vb_calls.specs.State.{Plain, is_active, quiet_reply, refusal_reply}
use Rattle.vb_calls.specs.States.{call_at}
use Rattle.vb_calls.specs.declared.calls.VbAnswer.TheVariants as vb_answer
use Rattle.vb_calls.specs.declared.calls.VbCall.TheVariants as call
use Rattle.vb_calls.specs.declared.calls.VbReply.{VbReply}
use Rattle.node_core.specs.Flushing.{settled_result}
use Rattle.node_world.specs.declared.told.Told.{Told}
use Rattle.node_world.specs.Causes.{MayJoin}
use Rattle.node_world.specs.Cuts.{own_link}
use Rattle.node_world.specs.Dues.{due_at, due_in, due_of, is_counted}
use Rattle.node_world.specs.Links.{PlainLink}
use Rattle.node_world.specs.Nodes.{PlainNode, chain_line, chain_made, first_cause, is_active_one, refused_or, tick_line}
use Rattle.node_world.specs.Pairing.{Differ, Each}
use Rattle.node_world.specs.Worlds.{Outcome}

-- ---- what its own link acknowledges leaves the answer of a line

pub due_answer : (n v : ℕ) (came : Outcome) → (due_in n v came).1.answer ≡ came.1.answer
due_answer n v came = by (is_counted came.1.answer)
  where
    at : (link : PlainLink) (o : Option PlainNode) → (due_at n link came.0 came.1 o).1.answer ≡ came.1.answer
    at link None = refl
    at link (Some node) = refl

    owned : (o : Option PlainLink) → (due_of n came.0 came.1 o).1.answer ≡ came.1.answer
    owned None = refl
    owned (Some link) = at link (came.0.nodes n)

    by : (b : Bool) → (if b then due_of n came.0 came.1 (own_link n v came.0.links) else came).1.answer ≡ came.1.answer
    by true = owned (own_link n v came.0.links)
    by false = refl

-- ---- members of a chain

second : (a b : Bool) → b ≡ false → (a && b) ≡ false
second true b e = e
second false b e = refl

-- one that is set is there
has_it : (m : ℕ) (before later : Members) → has_not m (named (before ++ Some m ∷ later)) ≡ false
has_it m [] later = ap (λ b. not b && has_not m (named later)) (eq-eqb m m refl)
has_it m (None ∷ xs) later = has_it m xs later
has_it m (Some x ∷ xs) later = second (not (x == m)) (has_not m (named (xs ++ Some m ∷ later))) (has_it m xs later)

-- one that stands twice
twice : (m : ℕ) (before between later : Members) → differ (named (before ++ Some m ∷ between ++ Some m ∷ later)) ≡ false
twice m [] between later = ap (λ b. b && differ (named (between ++ Some m ∷ later))) (has_it m between later)
twice m (None ∷ xs) between later = twice m xs between later
twice m (Some x ∷ xs) between later =
    second (has_not x (named (xs ++ Some m ∷ between ++ Some m ∷ later))) (differ (named (xs ++ Some m ∷ between ++ Some m ∷ later))) (twice m xs between later)

pub too_long : (n : ℕ) (others : Members) → 3 < length others → is_chain n others ≡ false
too_long n others long = ap (λ b. b && differ (n ∷ named others)) (lt-leb (length others) 3 long)

pub own_member : (n : ℕ) (before later : Members) → is_chain n (before ++ Some n ∷ later) ≡ false
own_member n before later =
    let others = before ++ Some n ∷ later in
    second (nat_le (length others) 3) (differ (n ∷ named others)) (ap (λ b. b && differ (named others)) (has_it n before later))

pub twice_member : (n m : ℕ) (before between later : Members) → is_chain n (before ++ Some m ∷ between ++ Some m ∷ later) ≡ false
twice_member n m before between later =
    let others = before ++ Some m ∷ between ++ Some m ∷ later in
    second (nat_le (length others) 3) (differ (n ∷ named others)) (second (has_not n (named others)) (differ (named others)) (twice m before between later))

all_away : (n : ℕ) (ms : List ℕ) → Each (λ m. m ≢ n) ms → has_not n ms ≡ true
all_away n [] each = refl
all_away n (x ∷ xs) each = (λ i. not (ne_eqb x n each.0 i) && all_away n xs each.1 i)

unlike : (x : ℕ) (ms : List ℕ) → Each (λ other. x ≢ other) ms → Each (λ other. other ≢ x) ms
unlike x [] each = tt
unlike x (y ∷ ys) each = (λ e. each.0 (sym e), unlike x ys each.1)

all_apart : (ms : List ℕ) → Differ (λ one other. one ≢ other) ms → differ ms ≡ true
all_apart [] apart = refl
all_apart (x ∷ xs) apart = (λ i. all_away x xs (unlike x xs apart.0) i && all_apart xs apart.1 i)

pub may_join : (n : ℕ) (others : Members) → MayJoin n others → is_chain n others ≡ true
may_join n others may = (λ i. le-leb (length others) 3 may.few i && (all_away n (named others) may.away i && all_apart (named others) may.apart i))

-- ---- roles

pub idle : (r : Role) → r ≢ role.Active → is_active r ≡ false
idle role.Active ne = absurd (ne refl)
idle role.Replica ne = refl
idle role.Pending ne = refl
idle role.Dead ne = refl

-- ---- a line that a vBucket settles

module _ (n v : ℕ) (node : PlainNode) where
  -- by the causes of a chain
  abbrev row : Bool → Bool → Bool → PlainNode × Told → PlainNode × Told
  row a b c came = refused_or (first_cause ((a, cause.UnknownVb) ∷ (b, cause.WrongRole) ∷ (c, cause.ChainBad) ∷ [])) node came

  pub chain_row : (others : Members) (o : Option Plain) (active fits : Bool) → node.vbs v ≡ o → is_active_one o ≡ active → is_chain n others ≡ fits
      → chain_line n v others node ≡ row (not (is_some o)) (not active) (not fits) (chain_made n v others node)
  chain_row others o active fits here e f =
      ap (λ x. row (not (is_some x)) (not (is_active_one x)) (not (is_chain n others)) (chain_made n v others node)) here
      ∙ (λ i. row (not (is_some o)) (not (e i)) (not (f i)) (chain_made n v others node))

  -- where there is no such vBucket
  pub no_chain : (others : Members) → node.vbs v ≡ None → (chain_line n v others node).1.answer ≡ answer.No cause.UnknownVb
  no_chain others none = ap (λ (x : PlainNode × Told). x.1.answer) (chain_row others None false (is_chain n others) none refl refl)

  pub no_tick : node.vbs v ≡ None → (tick_line n v node).1.answer ≡ answer.No cause.UnknownVb
  no_tick none = ap (λ o. (settled_result n v (call_at node.vbs v (call.Tick node.clock) o).1).answer) none

  module _ (vb : Plain) (here : node.vbs v ≡ Some vb) where
    pub chain_idle : (others : Members) → vb.role ≢ role.Active → (chain_line n v others node).1.answer ≡ answer.No cause.WrongRole
    chain_idle others ne = ap (λ (x : PlainNode × Told). x.1.answer) (chain_row others (Some vb) false (is_chain n others) here (idle vb.role ne) refl)

    pub chain_bad : (others : Members) → vb.role ≡ role.Active → is_chain n others ≡ false → (chain_line n v others node).1.answer ≡ answer.No cause.ChainBad
    chain_bad others e bad = ap (λ (x : PlainNode × Told). x.1.answer) (chain_row others (Some vb) true false here (ap is_active e) bad)

    -- what is said of a call of an active vBucket that came to this, and of any other vBucket
    abbrev said : Plain × VbReply → Bool → Answer
    said made b = (settled_result n v (Some (if b then made else (vb, refusal_reply status.NotMyVbucket)).1)).answer

    abbrev with_chain : Members → Plain × VbReply
    with_chain others = and_settled (record vb { others = others }, quiet_reply vb_answer.Done)

    pub chain_is_set : (others : Members) → vb.role ≡ role.Active → is_chain n others ≡ true → (chain_line n v others node).1.answer ≡ answer.Ok
    chain_is_set others e good =
        ap (λ (x : PlainNode × Told). x.1.answer) (chain_row others (Some vb) true true here (ap is_active e) good)
        ∙ ap (λ o. (settled_result n v (call_at node.vbs v (call.Chain (record { active = n; others = others })) o).1).answer) here ∙ ap (said (with_chain others)) (ap is_active e)

    ticked_as : (active : Bool) → is_active vb.role ≡ active → (tick_line n v node).1.answer ≡ said (then_settled (expired node.clock vb)) active
    ticked_as active e = ap (λ o. (settled_result n v (call_at node.vbs v (call.Tick node.clock) o).1).answer) here ∙ ap (said (then_settled (expired node.clock vb))) e

    pub tick_idle : vb.role ≢ role.Active → (tick_line n v node).1.answer ≡ answer.No cause.WrongRole
    tick_idle ne = ticked_as false (idle vb.role ne)

    pub ticks : vb.role ≡ role.Active → (tick_line n v node).1.answer ≡ answer.Ok
    ticks e = ticked_as true (ap is_active e)
