-- lines that are for no link, and those that dial or cut one: each branch that they make is named
use Rattle.std.specs.Prelude.{◌≡◌, ◌∷◌, ◌++◌, ◌==◌, ◌&&◌, ◌||◌, ◌⊎◌, if◌then◌else◌}
use Rattle.std.specs.List.{list_any}
use Rattle.transcript_law.proofs.Words.{ℕ, Bool, true, false, List, [], refl, ap, sym, ◌∙◌, subst, inl, inr, ⊎_elim, and_parts, eqb-true, eqb-false, Option, Some, None, is_some, Cause, Chronicle, ClientVerb, Event, LinkVerb, NodeVerb, Outcome, PlainNode, PlainWorld, Role, StreamName, Verb, VbVerb, AdminCall, first_cause, is_one_of, on_node, promote_causes, refused_or, role_outcome, turn_causes, uuid_causes, vb_at, vb_causes, verb_step}
use Rattle.node_world.specs.{Nodes.{limit_causes, vb_made}, Power.{start_at, start_causes, with_arm}, Worlds.{is_off, on_made}}
use Rattle.transcript_law.proofs.invariant.Tables.{none_hold}
use Rattle.transcript_law.proofs.noted.{Fitting.{AreNamed, among_named, holds_first, ids_turn, is_ungranting, lines_fit}, Freed.{LinesFit}, Groups.{is_still}, Staying.{gives_none}}
use Rattle.transcript_law.proofs.verbs.{Asking.{armed_behind}, NodeLines.{on_node_by}, Tellings.{are_also, each_told}, Untaken.{all_beside, is_apart, is_beside}}
use Rattle.transcript_law.specs.Asked.{IsRefused, RisesOn, TellsAsAsked, TellsOnce, TurnsTo, ids_in, id_of_line, turns_in}
use Rattle.transcript_law.specs.LinesTold.{Dial}
use Rattle.transcript_law.specs.Tellings.{TellsOf, are_all, is_of_end, may_tell}
use Rattle.vb_types.specs.declared.stream.AskAnswer.TheVariants as ask_answer

-- ---- lines that make none

abbrev is_branchless : Event → Bool
is_branchless (Event.Branch n v uuid parent fork high) = false
is_branchless other = true

branchless_ids : (lines : List Event) → are_all is_branchless lines ≡ true → AreNamed (ids_in lines)
branchless_ids [] a = tt
branchless_ids (Event.Branch n v uuid parent fork high ∷ lines) a = cc
branchless_ids (other ∷ lines) a = branchless_ids lines a

abbrev makes_none : Verb → Bool
makes_none (Verb.AtNode n (NodeVerb.Start uuids)) = false
makes_none other = gives_none other

may_branch : (r : Chronicle) (asked : Verb) (n' v' uuid' : ℕ) (parent : Option ℕ) (fork high : ℕ) → makes_none asked ≡ true → may_tell r asked (Event.Branch n' v' uuid' parent fork high) ≡ false
may_branch r (Verb.Node n) n' v' u' p f h e = refl
may_branch r (Verb.Link l k n v buffer takeover) n' v' u' p f h e = cc
may_branch r (Verb.AtNode n (NodeVerb.Clock nanos)) n' v' u' p f h e = refl
may_branch r (Verb.AtNode n (NodeVerb.Stop call out)) n' v' u' p f h e = refl
may_branch r (Verb.AtNode n (NodeVerb.Fail call)) n' v' u' p f h e = refl
may_branch r (Verb.AtNode n (NodeVerb.Crash out)) n' v' u' p f h e = refl
may_branch r (Verb.AtNode n (NodeVerb.Start uuids)) n' v' u' p f h e = cc
may_branch r (Verb.AtVb n v (VbVerb.MakeActive uuid)) n' v' u' p f h e = cc
may_branch r (Verb.AtVb n v VbVerb.MakeReplica) n' v' u' p f h e = cc
may_branch r (Verb.AtVb n v (VbVerb.Promote uuid)) n' v' u' p f h e = cc
may_branch r (Verb.AtVb n v VbVerb.Follow) n' v' u' p f h e = cc
may_branch r (Verb.AtVb n v VbVerb.Dead) n' v' u' p f h e = cc
may_branch r (Verb.AtVb n v (VbVerb.Chain others)) n' v' u' p f h e = refl
may_branch r (Verb.AtVb n v VbVerb.Tick) n' v' u' p f h e = refl
may_branch r (Verb.AtVb n v VbVerb.Trim) n' v' u' p f h e = refl
may_branch r (Verb.AtVb n v VbVerb.Seal) n' v' u' p f h e = refl
may_branch r (Verb.AtVb n v VbVerb.Take) n' v' u' p f h e = refl
may_branch r (Verb.AtVb n v VbVerb.Save) n' v' u' p f h e = refl
may_branch r (Verb.AtVb n v VbVerb.Done) n' v' u' p f h e = refl
may_branch r (Verb.AtVb n v VbVerb.Stat) n' v' u' p f h e = refl
may_branch r (Verb.AtVb n v VbVerb.Log) n' v' u' p f h e = refl
may_branch r (Verb.AtVb n v VbVerb.Show) n' v' u' p f h e = refl
may_branch r (Verb.AtClient n c ClientVerb.Open) n' v' u' p f h e = refl
may_branch r (Verb.AtClient n c (ClientVerb.Bytes bytes)) n' v' u' p f h e = refl
may_branch r (Verb.AtClient n c (ClientVerb.Pull wanted)) n' v' u' p f h e = refl
may_branch r (Verb.AtClient n c ClientVerb.Hang) n' v' u' p f h e = refl
may_branch r (Verb.AtLink l (LinkVerb.Up wanted)) n' v' u' p f h e = cc
may_branch r (Verb.AtLink l (LinkVerb.Down wanted)) n' v' u' p f h e = cc
may_branch r (Verb.AtLink l (LinkVerb.Pump wanted)) n' v' u' p f h e = cc
may_branch r (Verb.AtLink l LinkVerb.Drop) n' v' u' p f h e = cuts (r.dial_of l)
  where
    cuts : (o : Option Dial) → may_tell (record r { dial_of = λ k. o }) (Verb.AtLink l LinkVerb.Drop) (Event.Branch n' v' u' p f h) ≡ false
    cuts None = refl
    cuts (Some dial) = refl
may_branch r (Verb.AtLink l LinkVerb.Cut) n' v' u' p f h e = cuts (r.dial_of l)
  where
    cuts : (o : Option Dial) → may_tell (record r { dial_of = λ k. o }) (Verb.AtLink l LinkVerb.Cut) (Event.Branch n' v' u' p f h) ≡ false
    cuts None = refl
    cuts (Some dial) = refl

may_branchless : (r : Chronicle) (asked : Verb) → makes_none asked ≡ true → (line : Event) → may_tell r asked line ≡ true → is_branchless line ≡ true
may_branchless r asked none (Event.Branch n v uuid parent fork high) e = let z : false ≡ true = sym (may_branch r asked n v uuid parent fork high none) ∙ e in cc
may_branchless r asked none other e = refl

end_branchless : (r : Chronicle) (m : ℕ) (line : Event) → is_of_end r m line ≡ true → is_branchless line ≡ true
end_branchless r m (Event.Branch n v uuid parent fork high) e = cc
end_branchless r m other e = refl

none_named : (r : Chronicle) (asked : Verb) (lines : List Event) → makes_none asked ≡ true → TellsOf r asked lines → AreNamed (ids_in lines)
none_named r asked lines none t = branchless_ids lines (each_told (may_tell r asked) (is_of_end r) is_branchless (may_branchless r asked none) (λ m stops line e. end_branchless r m line e) lines t)

-- ---- lines that may make one

turned_named : (n v : ℕ) (role : Role) (lines : List Event) → TurnsTo n v role lines → AreNamed (ids_in lines)
turned_named n v role lines t = subst AreNamed (sym (ids_turn lines ∙ ap ids_in t)) tt

risen_named : (n v uuid : ℕ) (lines : List Event) → (uuid ≡ 0 → ⊥) → RisesOn n v uuid lines → AreNamed (ids_in lines)
risen_named n v uuid lines named x = subst AreNamed (sym (ids_turn lines ∙ ap ids_in x.alone)) (named, tt)

once_named : (Own : List Event → Type 0) (o : Outcome) → TellsOnce Own o.1.events o.1.answer → (Own o.1.events → AreNamed (ids_in o.1.events)) → AreNamed (ids_in o.1.events)
once_named Own o t own = ⊎_elim (λ no. subst (λ ls. AreNamed (ids_in ls)) (sym no.3) tt) own t

-- where nothing was told of a role the branch is none of a line's
calm_rises : (n v uuid : ℕ) (w : PlainWorld) (came : Outcome) → came.1.events ≡ [] → RisesOn n v uuid (with_arm n w came).1.events → ⊥
calm_rises n v uuid w came none x = let (behind, is, calm) = armed_behind n w came in
    let z : [] ≡ Event.Branch n v uuid x.parent x.fork x.high ∷ Event.Role n v Role.Active ∷ [] = sym (ap turns_in (is ∙ ap (λ ls. ls ++ behind) none) ∙ calm) ∙ x.alone in cc

promote_named : (w : PlainWorld) (n v uuid : ℕ) (why : Option Cause) → first_cause (promote_causes w n v uuid) ≡ why → (let o = with_arm n w (refused_or why w (role_outcome n v (AdminCall.Promote uuid) w)) in RisesOn n v uuid o.1.events → uuid ≡ 0 → ⊥)
promote_named w n v uuid (Some why) e x = absurd (calm_rises n v uuid w (refused_or (Some why) w (role_outcome n v (AdminCall.Promote uuid) w)) refl x)
promote_named w n v uuid None e x = eqb-false uuid 0 (holds_first (turn_causes w n v Role.Active) ((is_one_of uuid w.uuids, Cause.UuidUsed) ∷ []) (uuid == 0) Cause.UuidZero e)

made_named : (w : PlainWorld) (n v uuid : ℕ) → ((on_node w n (vb_at w.uuids n v uuid)).1.events ≡ []) ⊎ (uuid ≡ 0 → ⊥)
made_named w n v uuid = on_node_by (λ o. (o.1.events ≡ []) ⊎ (uuid ≡ 0 → ⊥)) w n (vb_at w.uuids n v uuid) (inl refl) (λ node known. inl refl) (λ node known up. by node (first_cause (vb_causes w.uuids node v uuid)) refl)
  where
    by : (node : PlainNode) (why : Option Cause) → first_cause (vb_causes w.uuids node v uuid) ≡ why → ((refused_or why node (vb_made n v Role.Active uuid node)).1.events ≡ []) ⊎ (uuid ≡ 0 → ⊥)
    by node (Some why) e = inl refl
    by node None e = inr (eqb-false uuid 0 (holds_first ((is_some (node.vbs v), Cause.VbExists) ∷ limit_causes node) ((is_one_of uuid w.uuids, Cause.UuidUsed) ∷ []) (uuid == 0) Cause.UuidZero e))

words_named : (uuids : List ℕ) → is_one_of 0 uuids ≡ false → AreNamed uuids
words_named [] e = tt
words_named (id ∷ ids) e = by (id == 0) refl (words_named ids) e
  where
    by : (b : Bool) → (id == 0) ≡ b → (is_one_of 0 ids ≡ false → AreNamed ids) → (b || is_one_of 0 ids) ≡ false → AreNamed (id ∷ ids)
    by true q rest z = cc
    by false q rest z = (eqb-false id 0 q, rest z)

start_named : (w : PlainWorld) (n : ℕ) (uuids : List ℕ) (why : Option Cause) → first_cause (start_causes w n uuids) ≡ why → (let o = refused_or why w (on_made w n (start_at n uuids)) in TellsAsAsked (Verb.AtNode n (NodeVerb.Start uuids)) o.1.events o.1.answer → AreNamed (ids_in o.1.events))
start_named w n uuids (Some why) e t = tt
start_named w n uuids None e t = among_named (ids_in (on_made w n (start_at n uuids)).1.events) uuids t (words_named uuids (none_hold (start_causes w n uuids) e).1.1.0)

-- ---- each line

module _ (w : PlainWorld) (r : Chronicle) (number : ℕ) where
  abbrev Named : Verb → Type 0
  Named line = let o = verb_step w number line in TellsOf r line o.1.events → TellsAsAsked line o.1.events o.1.answer → AreNamed (ids_in o.1.events)

  plain_named : (line : Verb) → makes_none line ≡ true → Named line
  plain_named line none t asked = none_named r line (verb_step w number line).1.events none t

  vb_named : (n v : ℕ) (what : VbVerb) → Named (Verb.AtVb n v what)
  vb_named n v (VbVerb.MakeActive uuid) t asked = let o = verb_step w number (Verb.AtVb n v (VbVerb.MakeActive uuid)) in once_named (RisesOn n v uuid) o asked (λ x. ⊎_elim (λ none. absurd (calm_rises n v uuid w (on_node w n (vb_at w.uuids n v uuid)) none x)) (λ named. risen_named n v uuid o.1.events named x) (made_named w n v uuid))
  vb_named n v VbVerb.MakeReplica t asked = let o = verb_step w number (Verb.AtVb n v VbVerb.MakeReplica) in once_named (TurnsTo n v Role.Replica) o asked (turned_named n v Role.Replica o.1.events)
  vb_named n v (VbVerb.Promote uuid) t asked = let o = verb_step w number (Verb.AtVb n v (VbVerb.Promote uuid)) in once_named (RisesOn n v uuid) o asked (λ x. risen_named n v uuid o.1.events (promote_named w n v uuid (first_cause (promote_causes w n v uuid)) refl x) x)
  vb_named n v VbVerb.Follow t asked = let o = verb_step w number (Verb.AtVb n v VbVerb.Follow) in once_named (TurnsTo n v Role.Replica) o asked (turned_named n v Role.Replica o.1.events)
  vb_named n v VbVerb.Dead t asked = let o = verb_step w number (Verb.AtVb n v VbVerb.Dead) in once_named (TurnsTo n v Role.Dead) o asked (turned_named n v Role.Dead o.1.events)
  vb_named n v (VbVerb.Chain others) t asked = plain_named (Verb.AtVb n v (VbVerb.Chain others)) refl t asked
  vb_named n v VbVerb.Tick t asked = plain_named (Verb.AtVb n v VbVerb.Tick) refl t asked
  vb_named n v VbVerb.Trim t asked = plain_named (Verb.AtVb n v VbVerb.Trim) refl t asked
  vb_named n v VbVerb.Seal t asked = plain_named (Verb.AtVb n v VbVerb.Seal) refl t asked
  vb_named n v VbVerb.Take t asked = plain_named (Verb.AtVb n v VbVerb.Take) refl t asked
  vb_named n v VbVerb.Save t asked = plain_named (Verb.AtVb n v VbVerb.Save) refl t asked
  vb_named n v VbVerb.Done t asked = plain_named (Verb.AtVb n v VbVerb.Done) refl t asked
  vb_named n v VbVerb.Stat t asked = plain_named (Verb.AtVb n v VbVerb.Stat) refl t asked
  vb_named n v VbVerb.Log t asked = plain_named (Verb.AtVb n v VbVerb.Log) refl t asked
  vb_named n v VbVerb.Show t asked = plain_named (Verb.AtVb n v VbVerb.Show) refl t asked

  node_named : (n : ℕ) (what : NodeVerb) → Named (Verb.AtNode n what)
  node_named n (NodeVerb.Clock nanos) t asked = plain_named (Verb.AtNode n (NodeVerb.Clock nanos)) refl t asked
  node_named n (NodeVerb.Stop call out) t asked = plain_named (Verb.AtNode n (NodeVerb.Stop call out)) refl t asked
  node_named n (NodeVerb.Fail call) t asked = plain_named (Verb.AtNode n (NodeVerb.Fail call)) refl t asked
  node_named n (NodeVerb.Crash out) t asked = plain_named (Verb.AtNode n (NodeVerb.Crash out)) refl t asked
  node_named n (NodeVerb.Start uuids) t asked = start_named w n uuids (first_cause (start_causes w n uuids)) refl asked

  still_named : (line : Verb) → is_still line ≡ true → Named line
  still_named (Verb.Node n) e t asked = plain_named (Verb.Node n) refl t asked
  still_named (Verb.Link l m n v buffer takeover) e t asked = cc
  still_named (Verb.AtNode n what) e t asked = node_named n what t asked
  still_named (Verb.AtVb n v what) e t asked = vb_named n v what t asked
  still_named (Verb.AtClient n c what) e t asked = plain_named (Verb.AtClient n c what) refl t asked
  still_named (Verb.AtLink l (LinkVerb.Up wanted)) e t asked = cc
  still_named (Verb.AtLink l (LinkVerb.Down wanted)) e t asked = cc
  still_named (Verb.AtLink l (LinkVerb.Pump wanted)) e t asked = cc
  still_named (Verb.AtLink l LinkVerb.Drop) e t asked = plain_named (Verb.AtLink l LinkVerb.Drop) refl t asked
  still_named (Verb.AtLink l LinkVerb.Cut) e t asked = plain_named (Verb.AtLink l LinkVerb.Cut) refl t asked

beside_ungranting : (line : Event) → is_beside line ≡ true → is_ungranting line ≡ true
beside_ungranting (Event.Asked (StreamName.Link l) n v ask high log ask_answer.Go) e = cc
beside_ungranting other e = refl

still_apart : (line : Verb) → is_still line ≡ true → is_apart line ≡ true
still_apart (Verb.Link l m n v buffer takeover) e = cc
still_apart other e = e

-- so each of these lines fits
pub still_fits : (w : PlainWorld) (r before : Chronicle) (number : ℕ) (line : Verb) → is_still line ≡ true → (let o = verb_step w number line in TellsOf r line o.1.events → TellsAsAsked line o.1.events o.1.answer → LinesFit before o.1.events)
still_fits w r before number line still t asked =
    let lines = (verb_step w number line).1.events in
    lines_fit before lines (are_also is_ungranting is_beside beside_ungranting lines (all_beside r line lines (still_apart line still) t)) (still_named w r number line still t asked)
