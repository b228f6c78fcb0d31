-- what is common to the streams of links and of clients: how requests are answered, how items go on with snapshots, and what is asked besides of a snapshot from the journal
use Rattle.std.specs.Prelude.{◌≡◌, ◌≢◌, ℕ, ◌<◌, ◌≤◌, ◌⊎◌, true, List, [], ◌∷◌, ◌++◌, map, Option, Some, None}
use Rattle.vb_types.specs.Histories.{Slot, last_of, plain, upto}
use Rattle.vb_types.specs.declared.change.Act.{Act}
use Rattle.vb_types.specs.declared.change.Act.TheVariants as act
use Rattle.vb_types.specs.declared.change.Change.{Change}
use Rattle.vb_types.specs.declared.role.LogEntry.{LogEntry}
use Rattle.vb_types.specs.declared.role.Role.{Role}
use Rattle.vb_types.specs.declared.role.Role.TheVariants.{Active}
use Rattle.vb_types.specs.declared.stream.AskAnswer.{AskAnswer}
use Rattle.vb_types.specs.declared.stream.AskAnswer.TheVariants as ask_answer
use Rattle.vb_types.specs.declared.stream.StreamAsk.{StreamAsk}
use Rattle.vb_types.specs.declared.stream.Verdict.TheVariants.{Continue, Roll}
use Rattle.vb_events.specs.declared.event.ItemAct.{ItemAct}
use Rattle.vb_events.specs.declared.event.ItemAct.TheVariants as item_act
use Rattle.branch_model.specs.Histories.{last_seq}
use Rattle.branch_model.specs.Requests.{effective_ss, effective_se, rule}
use Rattle.branch_model.specs.Snapshots.{Covers, slot_lasts}
use Rattle.branch_model.specs.Trees.{Branch, Shared}
use Rattle.transcript_law.specs.LinesTold.{Begun, Chronicle, Dial, ItemLine}
pub use Rattle.transcript_law.specs.StreamsTold.{FROM_DISK, FROM_MEMORY}

-- where it is known, it is this
abbrev pub IsIfKnown : {A : Type 0} → Option A → A → Type 0
IsIfKnown None this = Unit {0}
IsIfKnown (Some known) this = known ≡ this

-- a log has a newest branch, and that shares with `uuid` up to n
abbrev pub SharesFront : List Branch → ℕ → List LogEntry → ℕ → Type 0
SharesFront tree uuid [] n = ⊥
SharesFront tree uuid (e ∷ older) n = Shared tree uuid e.uuid n

-- the end that a request means
abbrev pub meant_end : StreamAsk → ℕ
meant_end ask = effective_se ask.start ask.ss ask.se

-- the start that a request means
abbrev pub meant_start : StreamAsk → ℕ
meant_start ask = effective_ss ask.start ask.ss ask.se

-- an answer to a request is what the failover rule says of it: it continues on a shared prefix, or is sent to a shared point; a refusal has a name
abbrev pub LawfulVerdict : List Branch → List LogEntry → ℕ → StreamAsk → AskAnswer → Type 0
LawfulVerdict tree log high ask ask_answer.Go = (rule log high ask ≡ Continue) × (0 < meant_end ask → SharesFront tree ask.uuid log (meant_end ask))
LawfulVerdict tree log high ask (ask_answer.Roll to) = (rule log high ask ≡ Roll to) × (0 < to → SharesFront tree ask.uuid log to)
LawfulVerdict tree log high ask (ask_answer.Refuse code) = code ≢ 0

-- a request is let continue, or is sent back, where the vBucket is active alone
abbrev pub GrantsAs : Option (Option Role) → AskAnswer → Type 0
GrantsAs role ask_answer.Go = role ≡ Some (Some Active)
GrantsAs role (ask_answer.Roll to) = role ≡ Some (Some Active)
GrantsAs role (ask_answer.Refuse code) = Unit {0}

-- a request is answered by the vBucket's own failover log, where that is known, and its own last seqno; and one that is not refused, by one that is active
pub record LawfulSaid (chronicle : Chronicle) (n v : ℕ) (ask : StreamAsk) (high : ℕ) (log : List LogEntry) (said : AskAnswer) : Type 0 where
  pub own_log : IsIfKnown (chronicle.log_at n v) log
  pub own_high : high ≡ last_seq 0 (chronicle.held n v)
  pub verdict : LawfulVerdict chronicle.tree log high ask said
  pub active : GrantsAs (chronicle.role_at n v) said

-- what an item line calls an act: a set, a removal, a prepare, a commit or an abort
abbrev pub line_act : Act → ItemAct
line_act (act.Set doc) = item_act.Set
line_act (act.Remove cas rev) = item_act.Remove
line_act (act.Prepare level doc deleted) = item_act.Prepare
line_act (act.Commit prepared doc deleted) = item_act.Commit
line_act (act.Abort prepared) = item_act.Abort

-- what an item line says of a change
abbrev pub item_of_change : Change → ItemLine
item_of_change c = record { seq = c.seq; act = line_act c.act; key = c.key }

-- these items are a front of a whole snapshot, after which `more` are to come
pub record IsFrontOf (b : Begun) (items : List ItemLine) (more : List Change) : Type 0 where
  pub whole : List Change
  pub covers : Covers whole b.history b.from b.end
  pub front : map item_of_change whole ≡ items ++ map item_of_change more

-- a snapshot that was begun was put whole
abbrev pub IsWholeIf : Option Begun → Type 0
IsWholeIf None = Unit {0}
IsWholeIf (Some b) = IsFrontOf b b.items []

-- an item goes on with the snapshot that was begun last, and is its last one where it has the snapshot's end
abbrev pub IsNextItem : Begun → ItemLine → Type 0
IsNextItem b item = (more : List Change) × IsFrontOf b (b.items ++ item ∷ []) more × (item.seq ≡ b.end → more ≡ [])

-- the last item that was put of a snapshot is the one at its end
abbrev pub EndsThere : Begun → Type 0
EndsThere b = (before : List ItemLine) × (item : ItemLine) × (b.items ≡ before ++ item ∷ []) × (item.seq ≡ b.end)

-- of the last snapshot of a stream, if one was begun
abbrev pub IsPutWhole : Option Begun → Type 0
IsPutWhole None = Unit {0}
IsPutWhole (Some b) = EndsThere b

-- ---- where a snapshot comes from

-- what counts as saved at the vBucket that a link dials, if it dials one
abbrev pub fed_saved : Chronicle → Option Dial → ℕ
fed_saved chronicle None = 0
fed_saved chronicle (Some dial) = (chronicle.disk_at dial.producer dial.vb).saved

-- a marker tells by its flags where its snapshot comes from, which is memory or the journal and nothing else; one from the journal ends no higher than what its vBucket counts as saved
pub record IsFromSource (flags end saved : ℕ) : Type 0 where
  pub source : (flags ≡ FROM_MEMORY) ⊎ (flags ≡ FROM_DISK)
  pub below : flags ≡ FROM_DISK → end ≤ saved

-- x is what the journal gives of h up to `end` in a slot: the last change there, and a commit as the set or the removal that it makes. No later one replaced it, which those that memory gives need not be; and none is a commit. That each such change is there is asked of a whole snapshot, wherever it comes from
pub record IsUnreplaced (h : List Change) (end : ℕ) (x : Change) : Type 0 where
  pub slot : Slot
  pub change : Change
  pub last : last_of slot (upto h end) ≡ Some change
  pub written : x ≡ plain change

-- so is what an item of a snapshot from the journal tells
abbrev pub IsOfSource : Begun → ItemLine → Type 0
IsOfSource b item = b.disk ≡ true → (x : Change) × IsUnreplaced b.history b.end x × (item ≡ item_of_change x)

-- the items of a snapshot tell of the changes that are the last ones of their slots, in their order, with commits written out, and of no others
abbrev pub HasExactly : Begun → Type 0
HasExactly b = b.items ≡ map (λ c. item_of_change (plain c)) (slot_lasts b.history b.from b.end)
