-- what a record of running code has by the types of its fields: each number fits its field, and keys and values are as long as they may be
use Rattle.std.specs.Prelude.{ℕ, ◌^◌, ◌<◌, List}
use Rattle.std.specs.List.{All}
use Rattle.vb_types.specs.Limits.{IsKey, IsValue}
use Rattle.vb_types.specs.declared.change.Act.{Act}
use Rattle.vb_types.specs.declared.change.Act.TheVariants as act
use Rattle.vb_types.specs.declared.change.Change.{Change}
use Rattle.vb_types.specs.declared.doc.Doc.{Doc}
use Rattle.vb_types.specs.declared.journal.Batch.{Batch}
use Rattle.vb_types.specs.declared.journal.Record.{Record}
use Rattle.vb_types.specs.declared.journal.Record.TheVariants as noted
use Rattle.vb_types.specs.declared.role.LogEntry.{LogEntry}

-- each number is that of a byte
abbrev pub AreBytes : List ℕ → Type 0
AreBytes bytes = All (λ b. b < 2 ^ 8) bytes

-- the numbers of an entry of a failover log
pub record EntryFits (e : LogEntry) : Type 0 where
  pub uuid : e.uuid < 2 ^ 64
  pub seq : e.seq < 2 ^ 64

-- of a document
pub record DocFits (d : Doc) : Type 0 where
  pub value : IsValue d.value
  pub cas : d.cas < 2 ^ 64
  pub rev : d.rev < 2 ^ 64
  pub flags : d.flags < 2 ^ 32
  pub expiry : d.expiry < 2 ^ 32
  pub datatype : d.datatype < 2 ^ 8

-- of an act
abbrev pub ActFits : Act → Type 0
ActFits (act.Set doc) = DocFits doc
ActFits (act.Remove cas rev) = (cas < 2 ^ 64) × (rev < 2 ^ 64)
ActFits (act.Prepare level doc deleted) = DocFits doc
ActFits (act.Commit prepared doc deleted) = (prepared < 2 ^ 64) × DocFits doc
ActFits (act.Abort prepared) = prepared < 2 ^ 64

-- of a change
pub record ItemFits (c : Change) : Type 0 where
  pub seq : c.seq < 2 ^ 64
  pub key : IsKey c.key
  pub act : ActFits c.act

-- of a batch
pub record BatchFits (b : Batch) : Type 0 where
  pub ss : b.position.ss < 2 ^ 64
  pub se : b.position.se < 2 ^ 64
  pub at : b.position.at < 2 ^ 64
  pub cas : b.cas < 2 ^ 64
  pub log : All EntryFits b.log
  pub items : All ItemFits b.items

-- of a record
abbrev pub Fits : Record → Type 0
Fits (noted.State role log) = All EntryFits log
Fits (noted.Rows b) = BatchFits b
Fits (noted.Roll to) = to < 2 ^ 64
