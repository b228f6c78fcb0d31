-- what waits at vBuckets under a number is of the question of the connection that awaits that number
use Rattle.std.specs.Prelude.{◌==◌, if◌then◌else◌, ◌≡◌, ◌≢◌, ◌<◌, ◌≤◌, ◌+◌, ◌*◌, ◌^◌, ◌⊎◌}
use Rattle.transcript_law.proofs.Words.{ℕ, true, false, List, ap, sym, ◌∙◌, subst, Option, Some, None, Ok, Pend, Plain, PlainSession, Frame, Write}
use Rattle.client_session.specs.{Serving.{deadline_of}, declared.session.{Awaited.{Awaited}, Settings.{Settings}}}
use Rattle.durability.specs.declared.waiting.Waiting.{Waiting}
use Rattle.mcbp_kv.specs.Requests.{request_of}
use Rattle.mcbp_kv.specs.declared.durable.Durability.{Durability}
use Rattle.mcbp_kv.specs.declared.request.KvRequest.TheVariants as request
use Rattle.node_core.specs.Clients.{PlainClient}
use Rattle.node_world.specs.Worlds.{PlainWorld}
use Rattle.transcript_law.proofs.answers.{Awaited.{IsOutstanding}, Explained.{IsPrepareOf}}
use Rattle.transcript_law.proofs.invariant.Holdings.{vb_of}
use Rattle.transcript_law.specs.{Feeding.{client_in}, LawfulAnswers.{IsMadeIn, PreparesIn}, LinesTold.{Chronicle, LastLine, OwnChange, is_durable, told_for}, Questions.{Question, question_of}, StreamsTold.{Asking}}

-- a vBucket owes an outcome: this prepare is outstanding, somebody waits for it, and this is what waits at its key
abbrev pub Owing : Option Plain → Waiting → Pend → Type 0
Owing None x p = ⊥
Owing (Some vb) x p = (x.waiter ≢ 0) × IsOutstanding vb x p

-- one owes nothing that another one does not
abbrev pub Fewer : Option Plain → Option Plain → Type 0
Fewer o o' = (x : Waiting) (p : Pend) → Owing o' x p → Owing o x p

-- a number is none under which this connection waits later
abbrev pub IsPast : PlainSession → ℕ → Type 0
IsPast s k = s.who.base * 2 ^ 32 + s.used < k → k < (s.who.base + 1) * 2 ^ 32 → ⊥

-- durable changes that were told are told
abbrev pub Grows : List OwnChange → List OwnChange → Type 0
Grows made made' = (one : OwnChange) → is_durable one.change.act ≡ true → IsMadeIn one made → IsMadeIn one made'

-- one that was read later in a group than another one: it has the same last line, and all that was told of durable writes
pub record Later (r r' : Chronicle) : Type 0 where
  pub last : r'.last ≡ r.last
  pub grows : Grows r.made r'.made

pub later_same : (r r' : Chronicle) → r'.last ≡ r.last → r'.made ≡ r.made → Later r r'
later_same r r' last made = record { last = last; grows = λ one durable i. subst (IsMadeIn one) (sym made) i }

pub later_on : (r r1 r2 : Chronicle) → Later r r1 → Later r1 r2 → Later r r2
later_on r r1 r2 a b = record { last = b.last ∙ a.last; grows = λ one durable i. b.grows one durable (a.grows one durable i) }

-- the prepare that waits so was told among these changes, at the level that is asked for, and until the time is over that is
pub record IsToldIn (n v : ℕ) (wish : Durability) (x : Waiting) (p : Pend) (told : List OwnChange) : Type 0 where
  pub named : PreparesIn n v x.seq x.key wish.level p.doc p.deleted told
  pub due : x.deadline ≡ Some (deadline_of named.first.clock wish.timeout)

told_on : (n v : ℕ) (wish : Durability) (x : Waiting) (p : Pend) (made made' : List OwnChange) → Grows made made' → IsToldIn n v wish x p made → IsToldIn n v wish x p made'
told_on n v wish x p made made' grows t = record {
  named = record { first = t.named.first; among = grows t.named.first (ap is_durable t.named.act) t.named.among; node = t.named.node; vb = t.named.vb; seq = t.named.seq; key = t.named.key; act = t.named.act };
  due = t.due;
}

-- what waits at the vBucket v of the node n is what this frame asked for, and was told so
pub record IsWaitOf (n : ℕ) (settings : Settings) (f : Frame) (v : ℕ) (x : Waiting) (p : Pend) (told : List OwnChange) : Type 0 where
  pub at : f.vb_or_status ≡ v
  pub write : Write
  pub wish : Durability
  pub asks : request_of settings.json f ≡ Ok (request.Write write (Some wish))
  pub prepares : IsPrepareOf write x p
  pub told_in : IsToldIn n v wish x p told

wait_on : (n : ℕ) (settings : Settings) (f : Frame) (v : ℕ) (x : Waiting) (p : Pend) (made made' : List OwnChange) → Grows made made' → IsWaitOf n settings f v x p made → IsWaitOf n settings f v x p made'
wait_on n settings f v x p made made' grows k = record { at = k.at; write = k.write; wish = k.wish; asks = k.asks; prepares = k.prepares; told_in = told_on n v k.wish x p made made' grows k.told_in }

-- also among those that are taken for the question's
pub wait_for_on : (n : ℕ) (settings : Settings) (f : Frame) (v : ℕ) (x : Waiting) (p : Pend) (o : Option (ℕ × List OwnChange)) (answered : ℕ) (made made' : List OwnChange) → Grows made made' → IsWaitOf n settings f v x p (told_for o answered made) → IsWaitOf n settings f v x p (told_for o answered made')
wait_for_on n settings f v x p None answered made made' grows t = wait_on n settings f v x p made made' grows t
wait_for_on n settings f v x p (Some (k, told)) answered made made' grows t =
    elim (k == answered) as (λ b. IsWaitOf n settings f v x p (if b then told else made) → IsWaitOf n settings f v x p (if b then told else made')) [ true ↦ (λ u. u) | false ↦ wait_on n settings f v x p made made' grows ] t

-- none is awaited, or what is in hand
abbrev pub IsIdle : PlainSession → Type 0
IsIdle s = (a : Awaited) → s.awaited ≡ Some a → a.waiter ≡ 0

-- the connection c of a node n with these vBuckets, where the last line is this one and these changes were told in its group: it awaits the last number that it gave; nothing waits under a number that it is to wait under; what waits under the number that it awaits is its question's, and was told in that one's group; and as long as it awaits none, its group is this one
pub record ConnOwed (line : LastLine) (n c : ℕ) (made : List OwnChange) (vbs : ℕ → Option Plain) (asking : Asking) (s : PlainSession) : Type 0 where
  pub base : s.who.base ≤ line.number
  pub used : s.used < 2 ^ 32
  pub number : (a : Awaited) → s.awaited ≡ Some a → (a.waiter ≡ 0) ⊎ (a.waiter ≡ s.who.base * 2 ^ 32 + s.used)
  pub past : (v : ℕ) (x : Waiting) (p : Pend) → Owing (vbs v) x p → IsPast s x.waiter
  pub own : (a : Awaited) (q : Question) (v : ℕ) (x : Waiting) (p : Pend) → s.awaited ≡ Some a → question_of asking ≡ Some q → Owing (vbs v) x p → x.waiter ≡ a.waiter → IsWaitOf n asking.settings q.frame v x p (told_for (line.served n c) asking.answered made)
  pub unserved : IsIdle s → (told : List OwnChange) → told_for (line.served n c) asking.answered told ≡ told
  pub upto : (k : ℕ) (told : List OwnChange) → line.served n c ≡ Some (k, told) → k ≤ asking.answered

-- so it is of each that is open; no number was given that a later line gives; and two connections of one node have two bases
pub record OwedIn (line : LastLine) (w : PlainWorld) (r : Chronicle) : Type 0 where
  pub low : (n v : ℕ) (x : Waiting) (p : Pend) → Owing (vb_of w n v) x p → x.waiter < (line.number + 1) * 2 ^ 32
  pub each : (n c : ℕ) (client : PlainClient) → client_in (w.nodes n) c ≡ Some client → ConnOwed line n c r.made (vb_of w n) (r.clients_at n c).asking client.session
  pub apart : (n c d : ℕ) (client other : PlainClient) → client_in (w.nodes n) c ≡ Some client → client_in (w.nodes n) d ≡ Some other → client.session.who.base ≡ other.session.who.base → c ≡ d

-- as long as the numbers of lines rise
abbrev pub OwedIf : Option LastLine → PlainWorld → Chronicle → Type 0
OwedIf None w r = Unit {0}
OwedIf (Some line) w r = OwedIn line w r

abbrev pub Owed : PlainWorld → Chronicle → Type 0
Owed w r = OwedIf r.last w r
