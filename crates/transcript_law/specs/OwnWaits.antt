-- which prepare a connection awaits: that of the durable write that it is to be answered next, and no other
use Rattle.std.specs.Prelude.{◌≡◌, ◌<◌, ◌==◌, if◌then◌else◌, ℕ, true, [], ◌∷◌, Option, Some, None, Ok}
use Rattle.client_session.specs.declared.session.Awaited.{Awaited}
use Rattle.durability.specs.Laws.{Waits}
use Rattle.durability.specs.declared.waiting.Waiting.{Waiting}
use Rattle.mcbp_kv.specs.Requests.{request_of}
use Rattle.mcbp_kv.specs.declared.durable.Durability.{Durability}
use Rattle.mcbp_kv.specs.declared.request.KvRequest.TheVariants as request
use Rattle.node_core.specs.Clients.{PlainClient}
use Rattle.node_world.specs.Nodes.{PlainNode}
use Rattle.node_world.specs.Worlds.{PlainWorld, empty_world}
use Rattle.node_world.specs.declared.script_node.TheConstants.{MAX_CLIENTS}
use Rattle.transcript_law.specs.{Feeding.{client_in}, LinesTold.{Chronicle, LastLine}, Questions.{Question, question_of}, StreamsTold.{Asking}, Waits.{one_waits, with_waiting}}
use Rattle.vb_calls.specs.{Durable.{is_delete}, Plain.{Plain}, State.{is_active, pending_of}, States.{States}}
use Rattle.vb_types.specs.declared.change.Pend.{Pend}
use Rattle.vb_types.specs.declared.write.Write.{Write}

-- what waits at a key is this write: its value with its flags, expiry and datatype, and whether it takes the key's document away
pub record IsEntryOf (write : Write) (pend : Pend) : Type 0 where
  pub value : pend.doc.value ≡ write.value
  pub flags : pend.doc.flags ≡ write.flags
  pub expiry : pend.doc.expiry ≡ write.expiry
  pub datatype : pend.doc.datatype ≡ write.datatype
  pub deleted : pend.deleted ≡ is_delete write.op

-- of these vBuckets the one of this number is active, and a prepare of this write is outstanding there under a number: it is what waits at the write's key. No other prepare is outstanding under that number, there or at another one
pub record IsTheOneAt (waiter : ℕ) (states : States) (v : ℕ) (write : Write) : Type 0 where
  pub vb : Plain
  pub there : states v ≡ Some vb
  pub active : is_active vb.role ≡ true
  pub w : Waiting
  pub among : Waits w vb.waiting
  pub number : w.waiter ≡ waiter
  pub key : w.key ≡ write.key
  pub pend : Pend
  pub entry : pending_of vb write.key ≡ Some pend
  pub same : pend.seq ≡ w.seq
  pub own : IsEntryOf write pend
  pub only : (u : ℕ) (other : Plain) (x : Waiting) → states u ≡ Some other → Waits x other.waiting → x.waiter ≡ waiter → (u ≡ v) × (x ≡ w)

-- what a connection is to be answered next is a durable write, and what it awaits is that one's prepare, at the vBucket that its frame names
pub record AwaitsItsOwn (asking : Asking) (a : Awaited) (states : States) : Type 0 where
  pub question : Question
  pub next : question_of asking ≡ Some question
  pub write : Write
  pub wish : Durability
  pub asks : request_of asking.settings.json question.frame ≡ Ok (request.Write write (Some wish))
  pub one : IsTheOneAt a.waiter states question.frame.vb_or_status write

-- the vBuckets of a node, if it is made
abbrev pub vbs_of : Option PlainNode → States
vbs_of None = λ v. None
vbs_of (Some node) = node.vbs

-- so it is of each connection of each node, by what is told of what it asks
abbrev pub AllAwaitTheirOwn : Chronicle → PlainWorld → Type 0
AllAwaitTheirOwn told w = (n c : ℕ) (client : PlainClient) (a : Awaited) → c < MAX_CLIENTS → client_in (w.nodes n) c ≡ Some client → client.session.awaited ≡ Some a → AwaitsItsOwn (told.clients_at n c).asking a (vbs_of (w.nodes n))

-- as long as the numbers of lines rise
abbrev pub AwaitTheirOwnIf : Option LastLine → Chronicle → PlainWorld → Type 0
AwaitTheirOwnIf None told w = Unit {0}
AwaitTheirOwnIf (Some line) told w = AllAwaitTheirOwn told w

-- ---- in numbers

-- two vBuckets, under 0 and 1, if they are there
abbrev pub two_states : Option Plain → Option Plain → States
two_states first second = λ v. if v == 0 then first else if v == 1 then second else None

-- a vBucket at which one prepare is outstanding, under this number
abbrev pub waits_alone : Plain → ℕ → Option Plain
waits_alone vb waiter = Some (with_waiting vb (one_waits waiter ∷ []))

-- a prepare of another key, for which somebody waits under a number
abbrev pub another_waits : ℕ → Waiting
another_waits waiter = record (one_waits waiter) { key = 108 ∷ []; seq = 6 }

-- a world of one node, under 0
abbrev pub one_node : PlainNode → PlainWorld
one_node node = record empty_world { nodes = λ n. if n == 0 then Some node else None }

-- a world of one node, under n
abbrev pub node_alone : ℕ → PlainNode → PlainWorld
node_alone n node = record empty_world { nodes = λ m. if m == n then Some node else None }
