-- what becomes of vBuckets and of a session behind a request for a document
use Rattle.std.specs.Prelude.{◌≡◌, ◌∷◌, ◌==◌, if◌then◌else◌}
use Rattle.transcript_law.proofs.Words.{ℕ, Bool, true, false, List, [], refl, Option, Some, Change, Chronicle, Frame, Plain, States, VbReply, after_change, after_lines, with_vb_at}
use Rattle.client_session.specs.{Answers.{request_lines}, Serving.{Served, durable_replied, next_waiter, with_lines, with_used}}
use Rattle.transcript_law.proofs.verbs.Settling.{changes_told}

-- changes tell nothing of clients
pub clients_past : (r : Chronicle) (n v uuid : ℕ) (cs : List Change) → (after_lines r (changes_told n v uuid cs)).clients_at ≡ r.clients_at
clients_past r n v uuid [] = refl
clients_past r n v uuid (c ∷ cs) = clients_past (after_change r n v uuid c) n v uuid cs

-- the vBuckets and the session after a request that a vBucket answered so
abbrev pub answered_by : Frame → Served → States × Option VbReply → States × Served
answered_by f s (states, reply) = (states, with_lines s (request_lines s.session.who.node s.session.who.client s.session.settings f reply))

-- and after a durable one
abbrev pub durably_by : Frame → Served → States × Option VbReply → States × Served
durably_by f s (states, reply) = (states, durable_replied (next_waiter s.session) f (with_used s) reply)

-- a vBucket that is put twice is put once
pub put_twice : (states : States) (v : ℕ) (one other : Plain) (q : ℕ) → with_vb_at states v other q ≡ with_vb_at (with_vb_at states v one) v other q
put_twice states v one other q = elim (q == v) as (λ b. (if b then Some other else states q) ≡ (if b then Some other else (if b then Some one else states q))) [ true ↦ refl | false ↦ refl ]

-- the branch that is told is the vBucket's, whether any prepare was committed
pub one_branch : (b : Bool) (u other : ℕ) → other ≡ u → (if b then u else other) ≡ u
one_branch true u other e = refl
one_branch false u other e = e
