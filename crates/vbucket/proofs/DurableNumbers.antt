-- one durable write in numbers
use Rattle.std.proofs.Common.{◌≡◌, List, [], ◌∷◌, false, length, arith, refl, sym, ap, ◌∙◌}
use Rattle.std.specs.Prelude.{Option, Some, None}
use Rattle.std.specs.Cmp.Lexicographic.{nat_list_cmp_total}
use Rattle.std.specs.FinMap as finite
use Rattle.std.specs.List.{fold}
use Rattle.durability.specs.declared.waiting.Waiting.{Waiting}
use Rattle.durability.specs.Outstanding.{placed, with_ack}
use Rattle.vb_types.specs.Keys.{key_cmp}
use Rattle.vb_types.specs.Images.{nothing}
use Rattle.vb_types.specs.declared.change.Act.TheVariants as act
use Rattle.vb_types.specs.declared.change.Change.{Change}
use Rattle.vb_types.specs.declared.change.Level.{Level}
use Rattle.vb_types.specs.declared.change.Level.TheVariants.{Majority, MajorityPersistActive, PersistMajority}
use Rattle.vb_types.specs.declared.change.Pend.{Pend}
use Rattle.vb_types.specs.declared.doc.Doc.{Doc}
use Rattle.vb_types.specs.declared.write.Op.TheVariants as op
use Rattle.vb_types.proofs.Laws.{get-insert_same}
use Rattle.vb_calls.specs.declared.calls.VbAnswer.TheVariants as answer
use Rattle.vb_calls.specs.declared.calls.VbCall.TheVariants.{Durable, Follow, Get, Promote}
use Rattle.vb_calls.specs.declared.calls.VbReply.{VbReply}
use Rattle.vb_calls.specs.Durable.{Wish, durable_outcome}
use Rattle.vb_calls.specs.Following.{committed_act}
use Rattle.vb_calls.specs.Plain.{Plain, plain_step}
use Rattle.vb_calls.specs.Roles.{ending_reply, led}
use Rattle.vb_calls.specs.Settling.{also_resolved, and_settled, committed_by, left_prepare, left_prepares, settled_from, unresolved}
use Rattle.vb_calls.specs.State.{doc_reply, get_reply, image_in, is_left, quiet_reply}
use Rattle.vb_calls.specs.Writes.{doc_refusal, new_rev, or_else, pending_refusal, store_outcome, written_doc}
use Rattle.vbucket.specs.DurableNumbers.{CommitsOne, DurableInNumbers, GivesOneUp, PreparesOne, of_two, one_doc, one_write, resolves, with_prepare}

-- what waits

abbrev one_pend : Level → Pend
one_pend level = record { seq = 1; level = level; doc = one_doc; deleted = false }

no_doc : finite.get nothing.docs (7 ∷ []) ≡ None
no_doc = finite.get-empty key_cmp (7 ∷ [])

no_pend : finite.get nothing.pending (7 ∷ []) ≡ None
no_pend = finite.get-empty key_cmp (7 ∷ [])

is_pend : (level : Level) → finite.get (finite.insert nothing.pending (7 ∷ []) (one_pend level)) (7 ∷ []) ≡ Some (one_pend level)
is_pend level = get-insert_same nothing.pending (7 ∷ []) (one_pend level)

-- a commit, where this waits
abbrev committing : Plain → VbReply → Waiting → Option Pend → VbReply
committing vb reply w o = (also_resolved reply (committed_by (committed_act w.seq o) w (settled_from []) (unresolved vb))).1

abbrev one_waiting : Level → Waiting
one_waiting level = record { key = 7 ∷ []; seq = 1; level = level; deadline = Some 50; waiter = 3 }

pub commits : CommitsOne
commits = record {
  first = ap (committing (record (with_prepare Majority) { acks = with_ack of_two.acks 2 1 }) (quiet_reply answer.Done) (one_waiting Majority)) (is_pend Majority);
  other = refl;
  above = refl;
  saved = refl;
  second = refl;
  second_saved = ap (committing (record (with_prepare MajorityPersistActive) { acks = with_ack of_two.acks 2 1; saved = 1 }) (quiet_reply (answer.Num 1)) (one_waiting MajorityPersistActive)) (is_pend MajorityPersistActive);
  third_saved = ap (committing (record (with_prepare PersistMajority) { acks = with_ack of_two.acks 2 1; saved = 1 }) (quiet_reply answer.Done) (one_waiting PersistMajority)) (is_pend PersistMajority);
  alone = ap (committing (record (with_prepare Majority) { others = [] }) (quiet_reply answer.Done) (one_waiting Majority)) (is_pend Majority);
}

-- what a former active node left

none_of : {X : Type 0} (xs : List X) → length xs ≡ 0 → xs ≡ []
none_of [] e = refl
none_of (x ∷ xs) e = absurd (omega arith)

none_left : finite.entries nothing.pending ≡ []
none_left = none_of (finite.entries nothing.pending) (sym (finite.len-entries nothing.pending) ∙ finite.len-empty key_cmp Pend)

one_entry : (level : Level) → finite.entries (finite.insert nothing.pending (7 ∷ []) (one_pend level)) ≡ (7 ∷ [], one_pend level) ∷ []
one_entry level = finite.entries-insert nat_list_cmp_total nothing.pending (7 ∷ []) (one_pend level) ∙ ap (λ es. finite.put key_cmp (7 ∷ []) (one_pend level) es) none_left

module _ (level : Level) where
  abbrev followed : Plain
  followed = (plain_step (with_prepare level) Follow).0

  abbrev leads_with : List Waiting → Plain × VbReply
  leads_with ws = and_settled (record (led followed 11) { waiting = ws }, ending_reply followed (answer.Branch 11 (Some 9) 1 1))

  abbrev one_again : Waiting
  one_again = record { key = 7 ∷ []; seq = 1; level = level; deadline = None; waiter = 0 }

  left_one : left_prepares (image_in followed) ≡ one_again ∷ []
  left_one = ap (λ es. fold (λ waiting e. placed (left_prepare e) waiting) [] es) (one_entry level)

  promoted : plain_step followed (Promote 11) ≡ leads_with (one_again ∷ [])
  promoted = ap leads_with left_one

pub gives : GivesOneUp
gives = record {
  before = refl;
  after = refl;
  follows = refl;
  again = ap (λ (x : Plain × VbReply). x.1) (promoted Majority)
      ∙ ap (committing (record (led (followed Majority) 11) { waiting = one_again Majority ∷ [] }) (ending_reply (followed Majority) (answer.Branch 11 (Some 9) 1 1)) (one_again Majority)) (is_pend Majority);
  waits = ap (λ (x : Plain × VbReply). x.1) (promoted PersistMajority);
  refused = ap (λ (x : Plain × VbReply). (plain_step x.0 (Get (7 ∷ []))).1) (promoted PersistMajority)
      ∙ ap (λ o. get_reply (is_left (one_again PersistMajority ∷ []) o) (finite.get nothing.docs (7 ∷ []))) (is_pend PersistMajority);
}

-- the write is prepared

clear : or_else (pending_refusal [] (finite.get nothing.pending (7 ∷ []))) (doc_refusal op.Set 0 (finite.get nothing.docs (7 ∷ []))) ≡ None
clear = ap (λ o. or_else (pending_refusal [] o) (doc_refusal op.Set 0 (finite.get nothing.docs (7 ∷ [])))) no_pend ∙ ap (doc_refusal op.Set 0) no_doc

abbrev wish : Level → Wish
wish level = record { level = level; deadline = 50; waiter = 3 }

-- the write prepared, where its document has the revision after this one's
abbrev preparing : Level → Option Doc → Plain × VbReply
preparing level o =
    let doc = written_doc one_write 1 (new_rev o) in
    let change : Change = record { seq = 1; key = 7 ∷ []; act = act.Prepare level doc false } in (
      record (with_prepare level) { held = change ∷ [] },
      resolves (answer.Prepared 1 1) [] 9 change,
    )

prepared : (level : Level) → plain_step of_two (Durable one_write 0 level 50 3) ≡ (with_prepare level, resolves (answer.Prepared 1 1) [] 9 (record { seq = 1; key = 7 ∷ []; act = act.Prepare level one_doc false }))
prepared Majority = ap (λ why. durable_outcome why of_two one_write (wish Majority) 1) clear ∙ ap (preparing Majority) no_doc
prepared MajorityPersistActive = ap (λ why. durable_outcome why of_two one_write (wish MajorityPersistActive) 1) clear ∙ ap (preparing MajorityPersistActive) no_doc
prepared PersistMajority = ap (λ why. durable_outcome why of_two one_write (wish PersistMajority) 1) clear ∙ ap (preparing PersistMajority) no_doc

pub prepares : PreparesOne
prepares = record {
  prepared = prepared;
  short = refl;
  impossible = refl;
  unseen = ap (λ o. get_reply (is_left (one_waiting Majority ∷ []) o) (finite.get nothing.docs (7 ∷ []))) (is_pend Majority) ∙ ap doc_reply no_doc;
  busy = ap (λ o. (store_outcome (or_else (pending_refusal (one_waiting Majority ∷ []) o) (doc_refusal op.Set 0 (finite.get nothing.docs (7 ∷ [])))) (with_prepare Majority) one_write 2).1) (is_pend Majority);
}

pub in_numbers : DurableInNumbers
in_numbers = (prepares, commits, gives)
