-- vBuckets and connections as they are told or are not, judged by hand
use Rattle.std.specs.Prelude.{◌≡◌, ◌∷◌, ◌==◌, if◌then◌else◌}
use Rattle.node_core.specs.Clients.{PlainClient, new_client}
use Rattle.vb_events.specs.declared.event.StreamName.TheVariants.{Client}
use Rattle.transcript_law.proofs.Words.{ℕ, Bool, true, false, List, [], refl, ap, sym, ◌∙◌, subst, arith, eqb-true, Option, Some, None, Change, Plain, PlainNode, Role, empty_chronicle, nothing, new_vb, one_change, empty_in, based, empty_node, after_got}
use Rattle.transcript_law.proofs.Words.{Sound, FollowsBranch, AreFollowed, starts, stays, vb_in, shelf_in}
use Rattle.std.specs.FinMap.{get-empty}
use Rattle.disk_journals.specs.Books.{Book}
use Rattle.durability.specs.declared.waiting.Waiting.{Waiting}
use Rattle.transcript_law.proofs.rows.CommitRows.{one_at_least}
use Rattle.transcript_law.specs.{Commits.{chained_known}, Contrary.{after_prepare}, Feeding.{client_in}, Followers.{client_world, prepared_in, unbounded}, OwnWaits.{AllAwaitTheirOwn}, Plainness.{AreOwnIf, IsOwnIf}, Prefixes.{off_of_node}, Transcripts.{set_write}}
use Rattle.vb_calls.specs.Durable.{durable_refusal, outstanding}
use Rattle.vb_calls.specs.Settling.{may_commit}
use Rattle.vb_calls.specs.Shelves.{Shelf}
use Rattle.vb_calls.specs.State.{doc_at, image_in, pending_of}
use Rattle.vb_calls.specs.Writes.{doc_refusal, new_rev, or_else, pending_refusal, written_doc}
use Rattle.vb_calls.specs.declared.calls.VbCall.TheVariants.{Chain, RollTo}
use Rattle.vb_types.specs.Images.{image_of}
use Rattle.vb_types.specs.Keys.{key_cmp}
use Rattle.vb_types.specs.declared.change.Act.TheVariants as act
use Rattle.vb_types.specs.declared.doc.Doc.{Doc}
use Rattle.vb_types.specs.declared.write.Op.TheVariants as op
use Rattle.vb_types.specs.declared.change.Level.TheVariants.{Majority}
use Rattle.vbucket.proofs.{Pending.{pends_fold, pends_nothing}, Prepares.{image_differ, image_seqs}, Preparing.{prepared_sound}}

-- a replica without a change, inside the snapshot of the first one
pub inside_sound : Sound (empty_in 0 1)
inside_sound =
    let s = starts 1 Role.Replica 0 in
    record { spanned = s.spanned; placed = record { capped = omega arith; within = (omega arith, omega arith); own = tt }; stamped = s.stamped; based = s.based; saved = s.saved; counted = s.counted; feeds = s.feeds }

-- one that went back to what the first change leaves
pub based_sound : Sound based
based_sound = stays (empty_in 0 1) (RollTo 1 (image_of (one_change ∷ [])) 1) inside_sound (
  omega arith,
  omega arith,
  pends_fold 1 nothing (one_change ∷ []) (pends_nothing 1) (omega arith, tt),
  image_seqs 0 1 (one_change ∷ []) (omega arith, omega arith),
  image_differ 0 1 (one_change ∷ []) (omega arith, omega arith),
)

-- a last CAS that has no 64 bits
pub unbounded_follows : FollowsBranch after_got 1 0 unbounded → ⊥
unbounded_follows f = let e = f.sound.last_cas in omega (arith, e)

-- a prepare that waits: of a chain of two, which its node alone is no majority of; and of that node alone

abbrev paired : Plain
paired = record (new_vb 0 Role.Active 5) { others = Some 1 ∷ [] }

paired_sound : Sound paired
paired_sound = stays (new_vb 0 Role.Active 5) (Chain (record { active = 0; others = Some 1 ∷ [] })) (starts 0 Role.Active 5) refl

abbrev waiting : Waiting
waiting = outstanding (set_write (7 ∷ []) (8 ∷ [])) (record { level = Majority; deadline = 0; waiter = 0 }) 1

lacks : may_commit (prepared_in (Some 1 ∷ [])) waiting ≡ false
lacks = refl

suffices : may_commit (prepared_in []) waiting ≡ true
suffices = refl

-- nothing is stored and nothing waits before it
unstored : doc_at paired (7 ∷ []) ≡ None
unstored = get-empty key_cmp (7 ∷ [])

unprepared : pending_of paired (7 ∷ []) ≡ None
unprepared = get-empty key_cmp (7 ∷ [])

free : durable_refusal paired (set_write (7 ∷ []) (8 ∷ [])) ≡ None
free = ap (λ o. or_else (pending_refusal [] o) (doc_refusal op.Set 0 (doc_at paired (7 ∷ [])))) unprepared ∙ ap (λ o. doc_refusal op.Set 0 o) unstored

-- the change that prepares it, where its key has this document
abbrev prepares : Option Doc → Change
prepares o = record { seq = 1; key = 7 ∷ []; act = act.Prepare Majority (written_doc (set_write (7 ∷ []) (8 ∷ [])) 1 (new_rev o)) false }

held_so : image_in (prepared_in (Some 1 ∷ [])) ≡ image_of (after_prepare.held 0 0)
held_so = ap (λ o. image_of (prepares o ∷ [])) unstored

pub waits : FollowsBranch (chained_known after_prepare (Some 1 ∷ [])) 0 0 (prepared_in (Some 1 ∷ []))
waits = record {
  sound = prepared_sound paired (set_write (7 ∷ []) (8 ∷ [])) 0 (record { level = Majority; deadline = 0; waiter = 0 }) free paired_sound (omega arith);
  at_rest = λ w more e. let same : waiting ≡ w = cc in subst (λ x. may_commit (prepared_in (Some 1 ∷ [])) x ≡ false) same lacks;
  committed = λ active room first more e held. let x = one_at_least held (omega arith) in absurd x.2;
  role = refl;
  held = held_so;
  log = refl;
  writer = λ e. (5, refl, record { made_or_took = refl; on_branch = refl });
  follows = record { image_is = refl; rises = omega arith; within = omega arith; of = λ x i. absurd i; has = λ slot c last low high. absurd (omega arith) };
  ancestry = record { short = omega arith; distinct = (tt, tt); falls = tt; at_forks = (refl, tt); traces = (refl, tt) };
  complete = λ e. held_so;
}

-- by what the lines tell its node alone is the chain
pub unchained : FollowsBranch after_prepare 0 0 (prepared_in (Some 1 ∷ [])) → ⊥
unchained f = f.committed refl (omega arith) waiting [] refl (record { members = []; differ = tt; each = tt; most = omega arith; saved_for = λ w. absurd w })

pub uncommitted : FollowsBranch after_prepare 0 0 (prepared_in []) → ⊥
uncommitted f = let e : true ≡ false = sym suffices ∙ f.at_rest waiting [] refl in cc

-- a connection is its own node's

abbrev client_of : ℕ → PlainClient
client_of m = new_client (record { node = m; client = 1; base = 0 })

abbrev holder : ℕ → PlainNode
holder m = record empty_node { clients = λ c. if c == 1 then Some (client_of m) else None }

no_vb : (n m v : ℕ) (vb : Plain) → vb_in ((client_world m).nodes n) v ≡ Some vb → ⊥
no_vb n m v vb = elim (n == 0) as (λ b. vb_in (if b then Some (holder m) else None) v ≡ Some vb → ⊥) [ true ↦ λ e. cc | false ↦ λ e. cc ]

no_shelf : (n m v : ℕ) (shelf : Shelf) → shelf_in ((client_world m).nodes n) v ≡ Some shelf → ⊥
no_shelf n m v shelf = elim (n == 0) as (λ b. shelf_in (if b then Some (holder m) else None) v ≡ Some shelf → ⊥) [ true ↦ λ e. cc | false ↦ λ e. cc ]

no_books : (n m : ℕ) (books : List Book) → off_of_node ((client_world m).nodes n) ≡ Some books → ⊥
no_books n m books = elim (n == 0) as (λ b. off_of_node (if b then Some (holder m) else None) ≡ Some books → ⊥) [ true ↦ λ e. cc | false ↦ λ e. cc ]

own_at : (n : ℕ) → AreOwnIf n ((client_world 0).nodes n)
own_at n = elim (n == 0) as (λ b. (n == 0) ≡ b → AreOwnIf n (if b then Some (holder 0) else None)) [
  | true ↦ λ e c. let at : 0 ≡ n = sym (eqb-true n 0 e) in elim (c == 1) as (λ b. (c == 1) ≡ b → IsOwnIf n c (if b then Some (client_of 0) else None))
      [ true ↦ (λ q. let number : 1 ≡ c = sym (eqb-true c 1 q) in (at, number, at, (λ i. Client (at i) (number i)), refl)) | false ↦ (λ q. tt) ] refl
  | false ↦ λ e. tt
] refl

none_awaited : AllAwaitTheirOwn empty_chronicle (client_world 0)
none_awaited n c client a lt is has = absurd (by (n == 0) is)
  where
    at : (b : Bool) → (if b then Some (client_of 0) else None) ≡ Some client → ⊥
    at true e = let same : client_of 0 ≡ client = cc in let z : None ≡ Some a = ap (λ (k : PlainClient). k.session.awaited) same ∙ has in cc
    at false e = cc

    by : (b : Bool) → client_in (if b then Some (holder 0) else None) c ≡ Some client → ⊥
    by true e = at (c == 1) e
    by false e = cc

pub own_client : AreFollowed empty_chronicle (client_world 0)
own_client = record {
  each = λ n v vb e. absurd (no_vb n 0 v vb e);
  points = λ n v shelf e. absurd (no_shelf n 0 v shelf e);
  disks = λ n v books book e there. absurd (no_books n 0 books e);
  alone = λ n v m q uuid vb other one second. absurd (no_vb n 0 v vb one.there);
  forks = λ n v uuid vb branch one is from. absurd (no_vb n 0 v vb one.there);
  own = own_at;
  awaited = none_awaited;
}

pub strange_client : AreFollowed empty_chronicle (client_world 1) → ⊥
strange_client f = let e : ◌≡◌ {A = ℕ} 1 0 = (f.own 0 1).0 in omega (arith, e)
