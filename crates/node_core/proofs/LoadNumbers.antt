-- loads in numbers: a prepare that waits, or none, and what a start makes of it
use Rattle.std.proofs.Common.{◌≡◌, ℕ, List, [], ◌∷◌, false, length, arith, refl, sym, ap, ◌∙◌, Option, Some, None}
use Rattle.std.specs.Cmp.Lexicographic.{nat_list_cmp_total}
use Rattle.std.specs.FinMap as finite
use Rattle.std.specs.List.{fold}
use Rattle.branch_model.specs.Requests.{fork_of}
use Rattle.disk_journals.specs.Books.{Book, opened_shelves}
use Rattle.durability.specs.declared.waiting.Waiting.{Waiting}
use Rattle.durability.specs.Outstanding.{placed}
use Rattle.journal_points.specs.Points.{saved}
use Rattle.vb_types.specs.Images.{nothing}
use Rattle.vb_types.specs.Keys.{key_cmp}
use Rattle.vb_types.specs.declared.change.Level.TheVariants.{PersistMajority}
use Rattle.vb_types.specs.declared.change.Pend.{Pend}
use Rattle.vb_types.proofs.Laws.{get-insert_same}
use Rattle.vb_calls.specs.declared.calls.VbAnswer.TheVariants as answer
use Rattle.vb_calls.specs.declared.calls.VbCall.TheVariants as call
use Rattle.vb_calls.specs.declared.calls.VbReply.{VbReply}
use Rattle.vb_calls.specs.Flushes.{role_told_job}
use Rattle.vb_calls.specs.Following.{committed_act}
use Rattle.vb_calls.specs.Jobs.{Ended, after_job, bind_job}
use Rattle.vb_calls.specs.Roles.{ending_reply, led, parent_of}
use Rattle.vb_calls.specs.Settling.{also_resolved, and_settled, committed_by, left_prepare, left_prepares, settled_from, unresolved}
use Rattle.vb_calls.specs.Shelves.{Shelves}
use Rattle.vb_calls.specs.State.{Plain}
use Rattle.vb_calls.specs.States.{States, with_vb_at}
use Rattle.node_core.specs.Flushing.{FlushResult}
use Rattle.node_core.specs.Loading.{loaded_by, loaded_states, start_result}
use Rattle.node_core.specs.LoadRows.{Loaded, doc_of_5, follower, promoted_at_4, dead_one, prepared_at_5, saved_to_6}

none_of : {X : Type 0} (xs : List X) → length xs ≡ 0 → xs ≡ []
none_of [] e = refl
none_of (x ∷ xs) e = absurd (omega arith)

no_entry : finite.entries nothing.pending ≡ []
no_entry = none_of (finite.entries nothing.pending) (sym (finite.len-entries nothing.pending) ∙ finite.len-empty key_cmp Pend)

-- none waits
pub none_left : left_prepares nothing ≡ []
none_left = ap (λ es. fold (λ waiting e. placed (left_prepare e) waiting) [] es) no_entry

-- the new branch of a vBucket of which these wait
abbrev pub leads_with : Plain → ℕ → List Waiting → Plain × VbReply
leads_with vb uuid ws = and_settled (record (led vb uuid) { waiting = ws }, ending_reply vb (answer.Branch uuid (parent_of vb.log) (fork_of vb.position) vb.position.at))

-- a start, where the promotion comes to this
abbrev pub started : States → Shelves → ℕ → ℕ → ℕ → Plain × VbReply → (States × Shelves) × FlushResult
started states shelves n v uuid x = after_job (bind_job (role_told_job v (call.Promote uuid) (Some x.1)) (λ made. Ended (start_result n v made))) (with_vb_at states v x.0) shelves

-- the vBucket of this journal
abbrev pub vb_of : ℕ → Book → Plain
vb_of n book = loaded_by n (saved book.1)

-- the one vBucket of a node starts
abbrev pub one_start : Book → ℕ → List Waiting → (States × Shelves) × FlushResult
one_start book uuid ws = started (loaded_states 0 (book ∷ [])) (opened_shelves (book ∷ [])) 0 0 uuid (leads_with (vb_of 0 book) uuid ws)

-- the one that is saved up to 6, over a journal like this
abbrev pub one_over : Shelves → List Waiting → (States × Shelves) × FlushResult
one_over shelves ws = started (loaded_states 0 (saved_to_6 ∷ [])) shelves 0 0 33 (leads_with (vb_of 0 saved_to_6) 33 ws)

-- two of four start
abbrev four : List Book
four = saved_to_6 ∷ follower ∷ promoted_at_4 ∷ dead_one ∷ []

abbrev first_start : List Waiting → (States × Shelves) × FlushResult
first_start ws = started (loaded_states 5 four) (opened_shelves four) 5 0 33 (leads_with (vb_of 5 saved_to_6) 33 ws)

abbrev second_start : List Waiting → (States × Shelves) × FlushResult
second_start ws = started (first_start ws).0.0 (first_start ws).0.1 5 2 44 (leads_with (vb_of 5 promoted_at_4) 44 ws)

abbrev pub two_starts : List Waiting → Loaded
two_starts ws = record { vbs = (second_start ws).0.0; shelves = (second_start ws).0.1; told = (first_start ws).1 ∷ (second_start ws).1 ∷ [] }

-- ---- one that waits

abbrev pend_of_5 : Pend
pend_of_5 = record { seq = 5; level = PersistMajority; doc = doc_of_5; deleted = false }

abbrev wait_for_5 : Waiting
wait_for_5 = record { key = 107 ∷ []; seq = 5; level = PersistMajority; deadline = None; waiter = 0 }

one_left : left_prepares (vb_of 0 prepared_at_5).base ≡ wait_for_5 ∷ []
one_left = ap (λ es. fold (λ waiting e. placed (left_prepare e) waiting) [] es)
    (finite.entries-insert nat_list_cmp_total nothing.pending (107 ∷ []) pend_of_5 ∙ ap (λ es. finite.put key_cmp (107 ∷ []) pend_of_5 es) no_entry)

abbrev vb_of_5 : Plain
vb_of_5 = record (led (vb_of 0 prepared_at_5) 33) { waiting = wait_for_5 ∷ [] }

-- it is committed, where this waits of its key
abbrev committing : Option Pend → Plain × VbReply
committing o = also_resolved (ending_reply (vb_of 0 prepared_at_5) (answer.Branch 33 (Some 11) 6 6)) (committed_by (committed_act 5 o) wait_for_5 (settled_from []) (unresolved vb_of_5))

abbrev pub commit_start : Option Pend → (States × Shelves) × FlushResult
commit_start o = started (loaded_states 0 (prepared_at_5 ∷ [])) (opened_shelves (prepared_at_5 ∷ [])) 0 0 33 (committing o)

-- so it is of each part of what a start leaves
pub commits : {A : Type 0} (f : (States × Shelves) × FlushResult → A) → f (one_start prepared_at_5 33 (left_prepares (vb_of 0 prepared_at_5).base)) ≡ f (commit_start (Some pend_of_5))
commits f = ap (λ ws. f (one_start prepared_at_5 33 ws)) one_left ∙ ap (λ o. f (commit_start o)) (get-insert_same nothing.pending (107 ∷ []) pend_of_5)
