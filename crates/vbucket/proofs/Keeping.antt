-- what is kept stands for the plain vBucket after durable writes are prepared and resolved
use Rattle.std.proofs.Common.{◌≡◌, ℕ, ◌+◌, Bool, true, false, List, [], ◌∷◌, ◌++◌, refl, sym, ap, subst, ◌∙◌}
use Rattle.std.specs.Prelude.{Option, Some, None, if◌then◌else◌, nat_lt, max, not, ◌&&◌}
use Rattle.std.specs.FinMap as map
use Rattle.std.specs.List.{fold}
use Rattle.std.proofs.lemmas.List.{append-nil, append_assoc}
use Rattle.std.proofs.lemmas.List.Sums.{fold-append}
use Rattle.durability.specs.declared.waiting.Waiting.{Waiting}
use Rattle.durability.specs.Chains.{Links, committed_now, has_enough, is_possible}
use Rattle.durability.specs.Outstanding.{acked, late, placed, with_ack, without}
use Rattle.vb_types.specs.Images.{applied}
use Rattle.vb_types.specs.declared.change.Act.{Act}
use Rattle.vb_types.specs.declared.change.Act.TheVariants as act
use Rattle.vb_types.specs.declared.change.Change.{Change}
use Rattle.vb_types.specs.declared.position.TheConstants.{MAX_SEQ}
use Rattle.vb_types.specs.declared.status.Status.{Status}
use Rattle.vb_types.specs.declared.status.Status.TheVariants as status
use Rattle.vb_types.specs.declared.write.Write.{Write}
use Rattle.vb_calls.specs.declared.calls.Resolution.{Resolution}
use Rattle.vb_calls.specs.declared.calls.Resolution.TheVariants as resolution
use Rattle.vb_calls.specs.declared.calls.Resolved.{Resolved}
use Rattle.vb_calls.specs.declared.calls.VbAnswer.{VbAnswer}
use Rattle.vb_calls.specs.declared.calls.VbAnswer.TheVariants as answer
use Rattle.vb_calls.specs.declared.calls.VbReply.{VbReply}
use Rattle.vb_calls.specs.Durable.{Wish, aborted, ack_row, chain_row, due_row, durable_outcome, durable_refusal, durable_row, expired, outstanding, prepare_change, prepared_reply, prepared_vb, then_settled, tick_row}
use Rattle.vb_calls.specs.Flushing.{flushed_row}
use Rattle.vb_calls.specs.Following.{cas_of, committed_act}
use Rattle.vb_calls.specs.Settling.{Resolving, also_resolved, and_settled, branch_of, committed_by, has_seqno, is_empty, outcome_for, resolved_by, resolving_change, settled_from, unresolved}
use Rattle.vb_calls.specs.State.{Plain, is_active, newest_branch, pending_of, quiet_reply, refusal_reply}
use Rattle.vb_calls.specs.Writes.{key_refusal, lacks_seqnos, new_cas}
use Rattle.vbucket.specs.declared.vbucket.settling.Plan.{Plan}
use Rattle.vbucket.specs.Kept.{Kept}
use Rattle.vbucket.specs.Settling.{carried_out, commits_by, given_up_plan, kept_ack, kept_chain, kept_durable, kept_expired, kept_flushed, kept_prepare, kept_settled, kept_tick, kept_with_prepare, next_change, no_plan, own_branch, prepare_plan, resolved_seq, waiting_by, with_abort, with_commits, with_committed, with_own, with_ready, with_resolved}
use Rattle.vbucket.specs.Stands.{IsKept, folded}
use Rattle.vbucket.proofs.Carrying.{own_all}
use Rattle.vbucket.proofs.Planning.{commit_act}
use Rattle.vbucket.proofs.Standing.{Stands, kept_alike, own_kept}

-- a plan over what is kept goes as a plain vBucket's resolving does, which has these changes and outcomes before it
pub record Goes (k : Kept) (pre : List Change) (told : List Resolved) (x : Resolving) (p : Plan) : Type 0 where
  pub stands : IsKept (fold with_own k p.changes) x.vb
  pub changes : p.changes ≡ pre ++ x.changes
  pub resolved : p.resolved ≡ told ++ x.resolved
  pub at : p.at ≡ x.vb.position.at
  pub active : is_active x.vb.role ≡ true

module _ (k : Kept) (pre : List Change) (told : List Resolved) where
  rest_is : (x : Resolving) (p : Plan) → Goes k pre told x p → (fold with_own k p.changes).rest ≡ folded x.vb
  rest_is x p g = g.stands.rest

  goes_on : (x : Resolving) (p : Plan) (a : Act) (how : Resolution) (w : Waiting) → resolved_seq a ≡ Some w.seq → Goes k pre told x p → Goes k pre told (resolved_by a how w x) (with_resolved a how w p)
  goes_on x p a how w q g = record {
    stands = subst (λ (y : Kept). IsKept y (resolved_by a how w x).vb) (sym (fold-append with_own k p.changes (next_change p.at w.key a ∷ []) ∙ ap (with_own made) same ∙ equal))
        (own_kept made x.vb c x.vb.last_cas (without w.seq x.vb.waiting) g.stands refl g.active);
    changes = ap (λ d. p.changes ++ d ∷ []) same ∙ ap (λ xs. xs ++ c ∷ []) g.changes ∙ append_assoc pre x.changes (c ∷ []);
    resolved = ap (λ xs. xs ++ outcome_for w.waiter how) g.resolved ∙ append_assoc told x.resolved (outcome_for w.waiter how);
    at = ap (λ n. n + 1) g.at;
    active = g.active;
  }
    where
      made : Kept
      made = fold with_own k p.changes

      c : Change
      c = resolving_change x.vb w a

      same : next_change p.at w.key a ≡ c
      same = ap (λ n. next_change n w.key a) g.at

      behind : waiting_by (resolved_seq a) made.rest.waiting ≡ without w.seq x.vb.waiting
      behind = ap (λ o. waiting_by o made.rest.waiting) q ∙ ap (λ (r : Plain). without w.seq r.waiting) g.stands.rest

      equal : with_own made c ≡ record (with_own made c) { rest = record (with_own made c).rest { last_cas = x.vb.last_cas; waiting = without w.seq x.vb.waiting } }
      equal = λ i. record (with_own made c) { rest = record (with_own made c).rest { last_cas = (ap (λ (r : Plain). r.last_cas) g.stands.rest) i; waiting = behind i } }

  -- the prepares that have enough are committed, up to the first that may not be
  commits_go : (ws : List Waiting) (x : Resolving) (p : Plan) → Goes k pre told x p
      → Goes k pre told (settled_from ws x) (with_commits (newest_branch k.rest.log) k.rest.base (committed_now (acked k.rest.acks) k.rest.others k.rest.saved ws) p)
  commits_go [] x p g = g
  commits_go (w ∷ ws) x p g =
      subst (λ b. Goes k pre told (plain_by (b && has_seqno x.vb) (committed_act w.seq (pending_of x.vb w.key))) (going (if enough then w ∷ ready else []) p)) enough_is
      (subst (λ n. Goes k pre told (plain_by (enough && nat_lt n MAX_SEQ) (committed_act w.seq (pending_of x.vb w.key))) (going (if enough then w ∷ ready else []) p)) g.at
      (subst (λ o. Goes k pre told (plain_by (enough && nat_lt p.at MAX_SEQ) o) (going (if enough then w ∷ ready else []) p)) there_is (by enough (commits_go ws))))
    where
      plain_by : Bool → Option Act → Resolving
      plain_by b o = if b then committed_by o w (settled_from ws) x else x

      enough : Bool
      enough = has_enough (acked k.rest.acks) k.rest.others k.rest.saved w

      ready : List Waiting
      ready = committed_now (acked k.rest.acks) k.rest.others k.rest.saved ws

      there : Option Act
      there = committed_act w.seq (map.get (fold applied k.rest.base p.changes).pending w.key)

      going : List Waiting → Plan → Plan
      going vs = with_commits (newest_branch k.rest.log) k.rest.base vs

      kept_in : Bool → Option Act → Plan
      kept_in d o = if d then commits_by o (newest_branch k.rest.log) w (going ready) p else p

      is : (fold with_own k p.changes).rest ≡ folded x.vb
      is = g.stands.rest

      enough_is : enough ≡ has_enough (acked x.vb.acks) x.vb.others x.vb.saved w
      enough_is = ap (λ (y : Kept). has_enough (acked y.rest.acks) y.rest.others y.rest.saved w) (sym (own_all k p.changes)) ∙ ap (λ (r : Plain). has_enough (acked r.acks) r.others r.saved w) is

      there_is : there ≡ committed_act w.seq (pending_of x.vb w.key)
      there_is = ap (λ (y : Kept). committed_act w.seq (map.get y.rest.base.pending w.key)) (sym (own_all k p.changes)) ∙ ap (λ (r : Plain). committed_act w.seq (map.get r.base.pending w.key)) is

      branch : newest_branch k.rest.log ≡ newest_branch x.vb.log
      branch = ap (λ (y : Kept). newest_branch y.rest.log) (sym (own_all k p.changes)) ∙ ap (λ (r : Plain). newest_branch r.log) is

      More : Type 0
      More = (y : Resolving) (q : Plan) → Goes k pre told y q → Goes k pre told (settled_from ws y) (going ready q)

      inner : (d : Bool) (o : Option Act) → o ≡ there → More → Goes k pre told (plain_by d o) (kept_in d o)
      inner false o e more = g
      inner true None e more = g
      inner true (Some a) e more =
          let how : Resolution = resolution.Committed (newest_branch x.vb.log) (x.vb.position.at + 1) (cas_of a) in
          more (resolved_by a how w x) (with_committed a (newest_branch k.rest.log) w p)
          (subst (λ h. Goes k pre told (resolved_by a how w x) (with_resolved a h w p)) (λ i. resolution.Committed (sym branch i) (sym g.at i + 1) (cas_of a)) (goes_on x p a how w (commit_act w.seq _ a (sym e)).1 g))

      by : (b : Bool) → More → Goes k pre told (plain_by (b && nat_lt p.at MAX_SEQ) there) (going (if b then w ∷ ready else []) p)
      by false more = g
      by true more = inner (nat_lt p.at MAX_SEQ) there refl more

-- the branch of changes with more behind them
branch_more : (uuid n : ℕ) (pre ys : List Change) → own_branch uuid (pre ++ ys) ≡ (if is_empty ys then own_branch uuid pre else uuid)
branch_more uuid n pre [] = ap (own_branch uuid) (append-nil pre)
branch_more uuid n [] (y ∷ ys) = refl
branch_more uuid n (c ∷ pre) (y ∷ ys) = refl

-- a plan is carried out, with all commits that may be made then
pub settled_stands : (k : Kept) (s : Plain) (reply : VbReply) (p : Plan) → IsKept (fold with_own k p.changes) s → is_active s.role ≡ true → p.at ≡ s.position.at → p.changes ≡ reply.changes → p.resolved ≡ reply.resolved → reply.ended ≡ []
    → reply.branch ≡ own_branch (newest_branch k.rest.log) reply.changes
    → Stands (carried_out k reply.answer (with_ready k.rest s.waiting p)).0 (carried_out k reply.answer (with_ready k.rest s.waiting p)).1 (and_settled (s, reply))
settled_stands k s reply p is active at changes resolved ended branch =
    subst (λ (y : Resolving). Stands (carried_out k reply.answer (with_ready k.rest s.waiting p)).0 (carried_out k reply.answer (with_ready k.rest s.waiting p)).1 (also_resolved reply y)) (ap (λ b. if b then x else unresolved s) (sym active))
    (g.stands, λ i. let r : VbReply = record { answer = reply.answer; resolved = g.resolved i; ended = sym ended i; branch = told i; changes = g.changes i } in r)
  where
    x : Resolving
    x = settled_from s.waiting (unresolved s)

    q : Plan
    q = with_ready k.rest s.waiting p

    g : Goes k reply.changes reply.resolved x q
    g = commits_go k reply.changes reply.resolved s.waiting (unresolved s) p (record { stands = is; changes = changes ∙ sym (append-nil reply.changes); resolved = resolved ∙ sym (append-nil reply.resolved); at = at; active = active })

    log : newest_branch k.rest.log ≡ newest_branch x.vb.log
    log = ap (λ (y : Kept). newest_branch y.rest.log) (sym (own_all k q.changes)) ∙ ap (λ (r : Plain). newest_branch r.log) g.stands.rest

    told : own_branch (newest_branch k.rest.log) q.changes ≡ branch_of reply x
    told = ap (own_branch (newest_branch k.rest.log)) g.changes ∙ branch_more (newest_branch k.rest.log) 0 reply.changes x.changes ∙ (λ i. if is_empty x.changes then sym branch i else log i)

-- a row over what is kept, which has all but the changes of the plain vBucket
pub by_folded : (row : Kept → Kept × VbReply) (k : Kept) (s : Plain) (k' : Kept) (reply : VbReply) (after : Plain × VbReply) → IsKept k s → (k', reply) ≡ row k
    → (IsKept (record { rest = folded s; list = k.list }) s → Stands (row (record { rest = folded s; list = k.list })).0 (row (record { rest = folded s; list = k.list })).1 after) → Stands k' reply after
by_folded row k s k' reply after is e of =
    let same : k ≡ record { rest = folded s; list = k.list } = λ i. record { rest = is.rest i; list = k.list } in
    subst (λ p. Stands p.0 p.1 after) (sym (e ∙ ap row same)) (of (subst (λ (x : Kept). IsKept x s) same is))

-- all is committed that may be
then_kept : (k : Kept) (s : Plain) (said : VbAnswer) → IsKept k s → is_active s.role ≡ true → Stands (kept_settled k said (no_plan k.rest.position.at)).0 (kept_settled k said (no_plan k.rest.position.at)).1 (and_settled (s, quiet_reply said))
then_kept k s said is active =
    subst (λ ws. Stands (made ws).0 (made ws).1 (and_settled (s, quiet_reply said))) (sym (ap (λ (r : Plain). r.waiting) is.rest))
    (settled_stands k s (quiet_reply said) (no_plan k.rest.position.at) is active (ap (λ (r : Plain). r.position.at) is.rest) refl refl refl refl)
  where
    made : List Waiting → Kept × VbReply
    made ws = carried_out k said (with_ready k.rest ws (no_plan k.rest.position.at))

-- a chain
pub chain_stands : (k : Kept) (s : Plain) → IsKept k s → (k' : Kept) (reply : VbReply) (chain : Links) → (k', reply) ≡ kept_chain k chain → Stands k' reply (chain_row s chain)
chain_stands k s is k' reply chain e = by_folded (λ x. kept_chain x chain) k s k' reply (chain_row s chain) is e (λ at. by at (is_active s.role) refl)
  where
    there : Kept
    there = record { rest = folded s; list = k.list }

    new : Kept
    new = record there { rest = record (folded s) { others = chain.others } }

    made : Bool → Kept × VbReply
    made b = if b then kept_settled new answer.Done (no_plan s.position.at) else (there, refusal_reply status.NotMyVbucket)

    plain : Bool → Plain × VbReply
    plain b = if b then and_settled (record s { others = chain.others }, quiet_reply answer.Done) else (s, refusal_reply status.NotMyVbucket)

    by : IsKept there s → (b : Bool) → is_active s.role ≡ b → Stands (made b).0 (made b).1 (plain b)
    by at true a = then_kept new (record s { others = chain.others }) answer.Done (kept_alike there new s (record s { others = chain.others }) at refl refl refl) a
    by at false a = (at, refl)

-- an acknowledgement
pub ack_stands : (k : Kept) (s : Plain) → IsKept k s → (k' : Kept) (reply : VbReply) (member seq : ℕ) → (k', reply) ≡ kept_ack k member seq → Stands k' reply (ack_row s member seq)
ack_stands k s is k' reply member seq e = by_folded (λ x. kept_ack x member seq) k s k' reply (ack_row s member seq) is e (λ at. by at (is_active s.role) (nat_lt s.position.at seq) refl)
  where
    there : Kept
    there = record { rest = folded s; list = k.list }

    new : Kept
    new = record there { rest = record (folded s) { acks = with_ack s.acks member seq } }

    made : Bool → Bool → Kept × VbReply
    made b d = if b then (if d then (there, refusal_reply status.Erange) else kept_settled new answer.Done (no_plan s.position.at)) else (there, refusal_reply status.NotMyVbucket)

    plain : Bool → Bool → Plain × VbReply
    plain b d = if b then (if d then (s, refusal_reply status.Erange) else and_settled (record s { acks = with_ack s.acks member seq }, quiet_reply answer.Done)) else (s, refusal_reply status.NotMyVbucket)

    by : IsKept there s → (b d : Bool) → is_active s.role ≡ b → Stands (made b d).0 (made b d).1 (plain b d)
    by at true false a =
        then_kept new (record s { acks = with_ack s.acks member seq }) answer.Done (kept_alike there new s (record s { acks = with_ack s.acks member seq }) at refl refl refl) a
    by at true true a = (at, refl)
    by at false d a = (at, refl)

-- what is known to be written down
pub flushed_stands : (k : Kept) (s : Plain) → IsKept k s → (k' : Kept) (reply : VbReply) (seq : ℕ) → (k', reply) ≡ kept_flushed k seq → Stands k' reply (flushed_row s seq)
flushed_stands k s is k' reply seq e = by_folded (λ x. kept_flushed x seq) k s k' reply (flushed_row s seq) is e (λ at. by at (is_active s.role) refl)
  where
    there : Kept
    there = record { rest = folded s; list = k.list }

    t : Plain
    t = record s { saved = max s.saved seq }

    new : Kept
    new = record there { rest = record (folded s) { saved = max s.saved seq } }

    made : Bool → Kept × VbReply
    made b = if b then kept_settled new (answer.Num (max s.saved seq)) (no_plan s.position.at) else (new, quiet_reply (answer.Num (max s.saved seq)))

    is_new : IsKept there s → IsKept new t
    is_new at = kept_alike there new s t at refl refl refl

    by : IsKept there s → (b : Bool) → is_active s.role ≡ b → Stands (made b).0 (made b).1 (flushed_row s seq)
    by at true a = then_kept new t (answer.Num (max s.saved seq)) (is_new at) a
    by at false a = subst (λ b. Stands new (quiet_reply (answer.Num (max s.saved seq))) (also_resolved (quiet_reply (answer.Num (max s.saved seq))) (if b then settled_from t.waiting (unresolved t) else unresolved t))) (sym a) (is_new at, refl)

-- a durable write
pub durable_stands : (k : Kept) (s : Plain) → IsKept k s → (k' : Kept) (reply : VbReply) (write : Write) (clock : ℕ) (wish : Wish) → (k', reply) ≡ kept_durable k write clock wish → Stands k' reply (durable_row s write clock wish)
durable_stands k s is k' reply write clock wish e = by_folded (λ x. kept_durable x write clock wish) k s k' reply (durable_row s write clock wish) is e (λ at. by at (durable_refusal s write) refl)
  where
    there : Kept
    there = record { rest = folded s; list = k.list }

    cas : ℕ
    cas = new_cas clock s.last_cas

    w : Waiting
    w = outstanding write wish (s.position.at + 1)

    new : Kept
    new = kept_with_prepare there w cas

    active_of : (b d f : Bool) (o : Option Status) → (if not b then Some status.NotMyVbucket else if not d then Some status.DurabilityImpossible else if f then Some status.Etmpfail else o) ≡ None → b ≡ true
    active_of true d f o q = refl
    active_of false d f o q = cc

    by : IsKept there s → (why : Option Status) → durable_refusal s write ≡ why → Stands (kept_prepare why there write wish cas).0 (kept_prepare why there write wish cas).1 (durable_outcome why s write wish cas)
    by at (Some st) q = (at, refl)
    by at None q =
        let a : is_active s.role ≡ true = active_of (is_active s.role) (is_possible s.others) (lacks_seqnos s 2) (key_refusal s write) q in
        settled_stands new (prepared_vb s write wish cas) (prepared_reply (newest_branch s.log) (prepare_change s write wish.level cas) cas) (prepare_plan there write wish.level cas)
        (own_kept there s (prepare_change s write wish.level cas) cas (placed w s.waiting) at refl a) a refl refl refl refl refl

-- a tick

-- what is given up
aborts_go : (k : Kept) (ws : List Waiting) (x : Resolving) (p : Plan) (left : List Waiting) → Goes k [] [] x p → left ≡ x.vb.waiting
    → Goes k [] [] (fold aborted x ws) (fold with_abort (p, left) ws).0 × ((fold with_abort (p, left) ws).1 ≡ (fold aborted x ws).vb.waiting)
aborts_go k [] x p left g e = (g, e)
aborts_go k (w ∷ ws) x p left g e =
    subst (λ b. After (fold aborted (if b then gone else x) ws) (fold with_abort (if nat_lt p.at MAX_SEQ then (with_resolved (act.Abort w.seq) resolution.Ambiguous w p, without w.seq left) else (p, left)) ws)) (ap (λ n. nat_lt n MAX_SEQ) g.at)
    (by (nat_lt p.at MAX_SEQ) (aborts_go k ws))
  where
    gone : Resolving
    gone = resolved_by (act.Abort w.seq) resolution.Ambiguous w x

    After : Resolving → Plan × List Waiting → Type 0
    After y q = Goes k [] [] y q.0 × (q.1 ≡ y.vb.waiting)

    by : (b : Bool) → ((y : Resolving) (q : Plan) (ls : List Waiting) → Goes k [] [] y q → ls ≡ y.vb.waiting → After (fold aborted y ws) (fold with_abort (q, ls) ws))
        → After (fold aborted (if b then gone else x) ws) (fold with_abort (if b then (with_resolved (act.Abort w.seq) resolution.Ambiguous w p, without w.seq left) else (p, left)) ws)
    by true more = more gone (with_resolved (act.Abort w.seq) resolution.Ambiguous w p) (without w.seq left) (goes_on k [] [] x p (act.Abort w.seq) resolution.Ambiguous w refl g) (ap (without w.seq) e)
    by false more = more x p left g e

pub tick_stands : (k : Kept) (s : Plain) → IsKept k s → (k' : Kept) (reply : VbReply) (clock : ℕ) → (k', reply) ≡ kept_tick k clock → Stands k' reply (tick_row s clock)
tick_stands k s is k' reply clock e = by_folded (λ x. kept_tick x clock) k s k' reply (tick_row s clock) is e (λ at. by at (is_active s.role) refl)
  where
    there : Kept
    there = record { rest = folded s; list = k.list }

    made : Bool → Kept × VbReply
    made b = if b then kept_expired there clock else (there, refusal_reply status.NotMyVbucket)

    plain : Bool → Plain × VbReply
    plain b = if b then then_settled (expired clock s) else (s, refusal_reply status.NotMyVbucket)

    by : IsKept there s → (b : Bool) → is_active s.role ≡ b → Stands (made b).0 (made b).1 (plain b)
    by at false a = (at, refl)
    by at true a =
        let (g, left) = aborts_go there (late clock s.waiting) (unresolved s) (no_plan s.position.at) s.waiting (record { stands = at; changes = refl; resolved = refl; at = refl; active = a }) refl in
        let x : Resolving = expired clock s in
        let q : Plan × List Waiting = given_up_plan clock s.waiting (no_plan s.position.at, s.waiting) in
        let log : newest_branch s.log ≡ newest_branch x.vb.log = ap (λ (y : Kept). newest_branch y.rest.log) (sym (own_all there q.0.changes)) ∙ ap (λ (r : Plain). newest_branch r.log) g.stands.rest in
        subst (λ ws. Stands (carried_out there answer.Done (with_ready (folded s) ws q.0)).0 (carried_out there answer.Done (with_ready (folded s) ws q.0)).1 (then_settled x)) (sym left)
        (settled_stands there x.vb (also_resolved (quiet_reply answer.Done) x).1 q.0 g.stands g.active g.at g.changes g.resolved refl (λ i. own_branch (sym log i) x.changes))

-- what may be acknowledged
pub due_stands : (k : Kept) (s : Plain) → IsKept k s → (k' : Kept) (reply : VbReply) → k' ≡ k → reply ≡ due_row k.rest → IsKept k' s × (reply ≡ due_row s)
due_stands k s is k' reply e q = (subst (λ (x : Kept). IsKept x s) (sym e) is, q ∙ ap due_row is.rest)
