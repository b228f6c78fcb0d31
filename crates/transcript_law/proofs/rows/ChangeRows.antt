-- changes that a vBucket makes of its own, judged by hand
use Rattle.std.specs.Prelude.{◌≡◌, ◌+◌, ◌^◌, ◌<◌, ◌∷◌, if◌then◌else◌}
use Rattle.std.specs.FinMap.{get, get-empty, remove}
use Rattle.transcript_law.proofs.Words.{ℕ, Bool, true, false, List, [], refl, ap, sym, ◌∙◌, subst, inl, ⊎_elim, arith, Option, Some, None, option_map, Act, Change, Doc, Pend, first_doc, image_of, is_older, key_cmp, nothing, one_change, LawfulFrom}
use Rattle.transcript_law.proofs.rows.NextRows.{above_two, keys_differ, nine_none, resolving_next, seven, seven_pending, seven_there, write_next}
use Rattle.transcript_law.specs.{ChangeRows.{greatest, greatest_known, own_change, own_lines, removed_known, removing_known, set_known, stamped, waiting_known}, Commits.{prepare_of}, OwnChanges.{IsCasAbove, IsNextChange, given_rev, is_removal, resolved_seq, rev_behind}}
use Rattle.vb_calls.specs.Following.{cas_of}
use Rattle.vb_types.proofs.Laws.{get-insert_other, get-insert_same, get-remove_same}
use Rattle.vb_types.specs.Histories.{IsIn}
use Rattle.vb_types.specs.declared.change.Act.TheVariants.{Abort, Commit, Remove, Set, Prepare}
use Rattle.vb_types.specs.declared.change.Level.{Level}
use Rattle.vb_types.specs.declared.change.Level.TheVariants.{Majority}
use Rattle.transcript_law.specs.{Lawfulness.{IsPrepareAsked}, LinesTold.{OwnChange}, StreamsTold.{ClientsKnown}}

-- an act that commits nothing, and gives nothing up
abbrev ResolvesNone : Act → Type 0
ResolvesNone a = ((prepared : ℕ) (doc : Doc) (deleted : Bool) → a ≡ Commit prepared doc deleted → ⊥) × ((prepared : ℕ) → a ≡ Abort prepared → ⊥)

-- and prepares nothing that no client asks for
abbrev pub AsksAs : ClientsKnown → Bool → ℕ → Act → Type 0
AsksAs clients moved key a = (level : Level) (doc : Doc) (deleted : Bool) → a ≡ Prepare level doc deleted → IsPrepareAsked clients moved 0 0 (key ∷ []) level doc deleted

-- a prepare has one level, document and kind
pub prepare_so : (P : Level → Doc → Bool → Type 0) (l : Level) (d : Doc) (b : Bool) → P l d b → (how : Level) (doc : Doc) (deleted : Bool) → Prepare l d b ≡ Prepare how doc deleted → P how doc deleted
prepare_so P l d b x how doc deleted e =
    let l_is : l ≡ how = cc in let d_is : d ≡ doc = cc in let b_is : b ≡ deleted = cc in
    subst (λ k. P how doc k) b_is (subst (λ k. P how k b) d_is (subst (λ k. P k d b) l_is x))

-- what the vBucket that set the key 7 may make next
pub after_set : (clients : ClientsKnown) (told : List OwnChange) (moved : Bool) (a : Act) (key : ℕ) → ResolvesNone a → AsksAs clients moved key a → IsNextChange (one_change ∷ []) (own_change 2 key a) → LawfulFrom (record set_known { clients_at = clients; made = told; changed = moved }) (own_lines 2 key a)
after_set clients told moved a key none asks made = (
  record {
    active = refl;
    writer = record { made_or_took = refl; on_branch = refl };
    above_branch = omega arith;
    above_forks = (λ e. omega arith, tt);
    made = made;
    fulfils = λ prepared doc deleted e. absurd (none.0 prepared doc deleted e);
    backed = λ prepared doc deleted e. absurd (none.0 prepared doc deleted e);
    asked = asks;
    aborts = λ prepared e. absurd (none.1 prepared e);
  },
  tt,
)

-- as if with the greatest numbers
abbrev pub full : Doc
full = stamped greatest greatest

pub after_greatest : (a : Act) (key : ℕ) → ResolvesNone a → AsksAs greatest_known.clients_at greatest_known.changed key a → IsNextChange (seven full ∷ []) (own_change 2 key a) → LawfulFrom greatest_known (own_lines 2 key a)
after_greatest a key none asks made = (
  record {
    active = refl;
    writer = record { made_or_took = refl; on_branch = refl };
    above_branch = omega arith;
    above_forks = (λ e. omega arith, tt);
    made = made;
    fulfils = λ prepared doc deleted e. absurd (none.0 prepared doc deleted e);
    backed = λ prepared doc deleted e. absurd (none.0 prepared doc deleted e);
    asked = asks;
    aborts = λ prepared e. absurd (none.1 prepared e);
  },
  tt,
)

pub greatest_next : (key : ℕ) (rev : ℕ) (there : Option Doc) → get (image_of (seven full ∷ [])).docs (key ∷ []) ≡ there → rev ≡ rev_behind there → IsNextChange (seven full ∷ []) (own_change 2 key (Set (stamped greatest rev)))
greatest_next key rev there found behind = write_next (seven full ∷ []) (own_change 2 key (Set (stamped greatest rev))) there refl (seven_pending full (key ∷ [])) found refl
    (λ n e. let same : greatest ≡ n = cc in (omega (arith, same), inl (sym same))) (λ n e. (let same : rev ≡ n = cc in sym same ∙ behind)) (λ e. cc)

-- what the one whose prepare waits may make next
pub after_waiting : (a : Act) (key : ℕ) → ResolvesNone a → AsksAs waiting_known.clients_at waiting_known.changed key a → IsNextChange (prepare_of Majority ∷ []) (own_change 2 key a) → LawfulFrom waiting_known (own_lines 2 key a)
after_waiting a key none asks made = (
  record {
    active = refl;
    writer = record { made_or_took = refl; on_branch = refl };
    above_branch = omega arith;
    above_forks = (λ e. omega arith, tt);
    made = made;
    fulfils = λ prepared doc deleted e. absurd (none.0 prepared doc deleted e);
    backed = λ prepared doc deleted e. absurd (none.0 prepared doc deleted e);
    asked = asks;
    aborts = λ prepared e. absurd (none.1 prepared e);
  },
  tt,
)

abbrev waits : Pend
waits = record { seq = 1; level = Majority; doc = first_doc 1 (6 ∷ []); deleted = false }

pub waits_there : get (image_of (prepare_of Majority ∷ [])).pending (9 ∷ []) ≡ Some waits
waits_there = get-insert_same nothing.pending (9 ∷ []) waits

pub none_beside : get (image_of (prepare_of Majority ∷ [])).pending (7 ∷ []) ≡ None
none_beside = get-insert_other nothing.pending (9 ∷ []) waits (7 ∷ []) (keys_differ 9 7 (λ e. omega arith)) ∙ get-empty key_cmp (7 ∷ [])

pub abort_next : IsNextChange (prepare_of Majority ∷ []) (own_change 2 9 (Abort 1))
abort_next = resolving_next (prepare_of Majority ∷ []) (own_change 2 9 (Abort 1)) waits refl waits_there refl refl refl refl

-- the prepare waits, so no change of its key does other than resolve it
pub must_resolve : (clients : ClientsKnown) (told : List OwnChange) (moved : Bool) (a : Act) → LawfulFrom (record waiting_known { clients_at = clients; made = told; changed = moved }) (own_lines 2 9 a) → resolved_seq a ≡ Some 1
must_resolve clients told moved a l = l.0.made.waits ∙ ap (option_map (λ (p : Pend). p.seq)) waits_there

pub resolves_none : (a : Act) → LawfulFrom waiting_known (own_lines 2 7 a) → resolved_seq a ≡ None
resolves_none a l = l.0.made.waits ∙ ap (option_map (λ (p : Pend). p.seq)) none_beside

pub resolves_nothing : (a : Act) (key : ℕ) → LawfulFrom set_known (own_lines 2 key a) → resolved_seq a ≡ None
resolves_nothing a key l = l.0.made.waits ∙ ap (option_map (λ (p : Pend). p.seq)) (seven_pending (first_doc 1 (8 ∷ [])) (key ∷ []))

-- a CAS that is lawful is above that of each change that is held, unless it is the greatest one
pub is_above : (held : List Change) (c : Change) (n : ℕ) → IsIn c held → IsCasAbove held n → n + 1 < 2 ^ 64 → cas_of c.act < n
is_above held c n i above low = ⊎_elim (λ e. omega arith) (λ f. f c i) above.1

-- and a revision
pub rev_of_seven : (clients : ClientsKnown) (told : List OwnChange) (moved : Bool) (a : Act) (n : ℕ) → given_rev a ≡ Some n → LawfulFrom (record set_known { clients_at = clients; made = told; changed = moved }) (own_lines 2 7 a) → n ≡ 2
rev_of_seven clients told moved a n is l = l.0.made.rev n is ∙ ap rev_behind (seven_there (first_doc 1 (8 ∷ [])))

pub rev_of_nine : (a : Act) (n : ℕ) → given_rev a ≡ Some n → LawfulFrom set_known (own_lines 2 9 a) → n ≡ 1
rev_of_nine a n is l = l.0.made.rev n is ∙ ap rev_behind (nine_none (first_doc 1 (8 ∷ [])))

pub rev_of_greatest : (a : Act) (n : ℕ) → given_rev a ≡ Some n → LawfulFrom greatest_known (own_lines 2 7 a) → n ≡ greatest
rev_of_greatest a n is l = l.0.made.rev n is ∙ ap rev_behind (seven_there full)

-- a removal of the key 9 takes nothing
pub takes_none : (clients : ClientsKnown) (told : List OwnChange) (moved : Bool) (a : Act) → is_removal a ≡ true → LawfulFrom (record set_known { clients_at = clients; made = told; changed = moved }) (own_lines 2 9 a) → ⊥
takes_none clients told moved a is l = let x = l.0.made.taken is in let e : None ≡ Some x.0 = sym (nine_none (first_doc 1 (8 ∷ []))) ∙ x.1 in cc

-- the removal of the key 7 waits
pub removing_waits : get (image_of (one_change ∷ own_change 2 7 (Prepare Majority (stamped 2 2) true) ∷ [])).pending (7 ∷ []) ≡ Some (record { seq = 2; level = Majority; doc = stamped 2 2; deleted = true })
removing_waits = get-insert_same (image_of (one_change ∷ [])).pending (7 ∷ []) (record { seq = 2; level = Majority; doc = stamped 2 2; deleted = true })

pub must_remove : (a : Act) → LawfulFrom removing_known (own_lines 3 7 a) → resolved_seq a ≡ Some 2
must_remove a l = l.0.made.waits ∙ ap (option_map (λ (p : Pend). p.seq)) removing_waits

-- the key 7 was removed

abbrev pub removed_held : List Change
removed_held = one_change ∷ own_change 2 7 (Remove 2 2) ∷ []

pub removed_none : get (image_of removed_held).docs (7 ∷ []) ≡ None
removed_none = get-remove_same (image_of (one_change ∷ [])).docs (7 ∷ [])

pub rev_of_removed : (a : Act) (n : ℕ) → given_rev a ≡ Some n → LawfulFrom removed_known (own_lines 3 7 a) → n ≡ 1
rev_of_removed a n is l = l.0.made.rev n is ∙ ap rev_behind removed_none

pub takes_again : (a : Act) → is_removal a ≡ true → LawfulFrom removed_known (own_lines 3 7 a) → ⊥
takes_again a is l = let x = l.0.made.taken is in let e : None ≡ Some x.0 = sym removed_none ∙ x.1 in cc

pub after_removed : LawfulFrom removed_known (own_lines 3 7 (Set (stamped 3 1)))
after_removed = (
  record {
    active = refl;
    writer = record { made_or_took = refl; on_branch = refl };
    above_branch = omega arith;
    above_forks = (λ e. omega arith, tt);
    made = write_next removed_held (own_change 3 7 (Set (stamped 3 1))) None refl removed_pending removed_none refl
        (λ n e. let q : 3 ≡ n = cc in above_two one_change (own_change 2 7 (Remove 2 2)) n (omega (arith, q)) (omega (arith, q)) (omega (arith, q))) (λ n e. cc) (λ e. cc);
    fulfils = λ prepared doc deleted e. cc;
    backed = λ prepared doc deleted e. cc;
    asked = λ level doc deleted e. cc;
    aborts = λ prepared e. cc;
  },
  tt,
)
  where
    -- no prepare was there
    removed_pending : get (image_of removed_held).pending (7 ∷ []) ≡ None
    removed_pending =
        let pending = (image_of (one_change ∷ [])).pending in
        ap (λ o. get (if is_older 2 o then remove pending (7 ∷ []) else pending) (7 ∷ [])) (seven_pending (first_doc 1 (8 ∷ [])) (7 ∷ [])) ∙ seven_pending (first_doc 1 (8 ∷ [])) (7 ∷ [])
