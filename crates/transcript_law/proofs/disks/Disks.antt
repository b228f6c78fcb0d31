-- what a vBucket wrote down, as the lines tell it, as its journal has it, and as its member of the cluster has it
use Rattle.std.specs.Prelude.{◌≡◌, ◌<◌, ◌≤◌, ◌^◌, ◌∷◌, []}
use Rattle.transcript_law.proofs.Words.{ℕ, Bool, true, false, map, PlainNode, List, Option, Some, None, refl, sym, ap, ◌∙◌, subst, inl, inr, ⊎_elim, Position, Plain, PlainWorld, Spans, all_spans, with_seal, with_change, no_spans, Span, Grown, shelf_in}
use Rattle.{branch_model.specs.Journals.{cas_of_last, place_of, points}, cluster_model.specs.Clusters.{Disk, IsBatchEnd, IsSpot, opened}, std.specs.Prelude.{option_map, option_to_list}, vb_calls.specs.Shelves.{Flush, Idle, Out, Written, Shelf, blank_shelf}}
use Rattle.{node_core.specs.Clients.{PlainClient}, std.specs.Prelude.{option_and_then}, transcript_law.specs.Feeding.{client_in}}
use Rattle.{disk_journals.specs.Books.{Book}, node_world.specs.declared.arm.Arm.{Arm}, vb_disk.specs.declared.fuse.Fuse.TheVariants.{Off}, vb_types.specs.declared.journal.Record.{Record}}
use Rattle.vb_types.specs.declared.journal.Record.TheVariants as noted
use Rattle.{transcript_law.specs.Chronicles.{DiskKnown, Flushing, known_batch}, vb_calls.specs.Spans.{span_position}, vb_calls.specs.declared.span.Origin.{Origin}, vb_types.specs.declared.journal.Batch.{Batch}}
pub use Rattle.transcript_law.specs.Prefixes.{book_in}
use Rattle.transcript_law.proofs.invariant.Wholes.{IsSpanIn, all_sealed, in_first, in_part}

-- the journal of the vBucket v of the node n
abbrev pub shelf_of : PlainWorld → ℕ → ℕ → Option Shelf
shelf_of w n v = shelf_in (w.nodes n) v

-- a node's arm, where it is down the records on its disks, and what its clock shows
pub record Power : Type 0 where
  pub arm : Arm
  pub off : Option (List Book)
  pub clock : ℕ

abbrev pub power_in : Option PlainNode → Option Power
power_in None = None
power_in (Some node) = Some (record { arm = node.arm; off = node.off; clock = node.clock })

abbrev pub power_of : PlainWorld → ℕ → Option Power
power_of w n = power_in (w.nodes n)

-- what a node has beside its vBuckets and their journals: that, and its clients' open connections
pub record Beside : Type 0 where
  pub power : Power
  pub clients : ℕ → Option PlainClient

abbrev pub beside_in : Option PlainNode → Option Beside
beside_in None = None
beside_in (Some node) = Some (record { power = record { arm = node.arm; off = node.off; clock = node.clock }; clients = node.clients })

pub beside_power : (o o' : Option PlainNode) → beside_in o' ≡ beside_in o → power_in o' ≡ power_in o
beside_power None None e = refl
beside_power None (Some node) e = cc
beside_power (Some node) None e = cc
beside_power (Some node) (Some node') e = ap (option_map (λ (b : Beside). b.power)) e

pub beside_by : (o o' : Option PlainNode) → power_in o' ≡ power_in o → ((c : ℕ) → client_in o' c ≡ client_in o c) → beside_in o' ≡ beside_in o
beside_by None None e clients = refl
beside_by None (Some node) e clients = let p : Power = record { arm = node.arm; off = node.off; clock = node.clock } in let z : Some p ≡ None = e in cc
beside_by (Some node) None e clients = let p : Power = record { arm = node.arm; off = node.off; clock = node.clock } in let z : None ≡ Some p = e in cc
beside_by (Some node) (Some node') e clients =
    let p : Power = record { arm = node.arm; off = node.off; clock = node.clock } in let q : Power = record { arm = node'.arm; off = node'.off; clock = node'.clock } in let z : Some q ≡ Some p = e in let same : q ≡ p = cc in
    λ i. Some (record { power = same i; clients = λ c. clients c i })

pub beside_clients : (o o' : Option PlainNode) → beside_in o' ≡ beside_in o → (c : ℕ) → client_in o' c ≡ client_in o c
beside_clients None None e c = refl
beside_clients None (Some node) e c = cc
beside_clients (Some node) None e c = cc
beside_clients (Some node) (Some node') e c = let own : Option Beside → Option PlainClient = λ o. option_and_then (λ (b : Beside). b.clients c) o in ap own e

-- what of a vBucket its journal speaks of
pub record Parts : Type 0 where
  pub flushed : ℕ
  pub saved : ℕ
  pub floor : ℕ
  pub spans : Spans

abbrev pub parts_of : Plain → Parts
parts_of vb = record { flushed = vb.flushed; saved = vb.saved; floor = vb.floor; spans = vb.spans }

-- each span that goes on above a seqno ends at one of these positions
abbrev pub EndAtSpots : ℕ → Spans → List Position → Type 0
EndAtSpots at ws stood = (w : Span) → IsSpanIn w (all_spans ws) → at < w.last → IsSpot (span_position w.origin w.last) stood

-- a record as the lines tell it: of a batch its position and its failover log
abbrev pub bare : Record → Record
bare (noted.State role log) = noted.State role log
bare (noted.Rows b) = noted.Rows (known_batch b.position b.log)
bare (noted.Roll to) = noted.Roll to

-- the batch on its way, of a vBucket that was taken up to there, and whose journal goes up to `place`. What was taken while the journal was closed is never appended
abbrev pub FlushIs : Bool → Flush → Flushing → Option Batch → ℕ → ℕ → Type 0
FlushIs closed Idle told batch taken place = (told ≡ Flushing.Idle) × (closed ≡ false → taken ≡ place) × (place ≤ taken)
FlushIs closed (Out b) told batch taken place = (told ≡ Flushing.Taken (known_batch b.position b.log)) × (closed ≡ false → batch ≡ Some b) × (taken ≡ b.position.at) × (place ≤ b.position.at) × (b.cas < 2 ^ 64)
FlushIs closed (Written seq) told batch taken place = (told ≡ Flushing.Written seq) × (closed ≡ false → taken ≡ place) × (place ≤ taken)

-- a journal has the records of the member's disk, and the lines tell of them and of its batches. A record whose append was broken off is there only where it is closed. What counts as saved is the end of a batch that stands, and so is what will count once it is told that the last batch was written down
pub record ShelfIs (told : DiskKnown) (d : Disk) (shelf : Shelf) (x : Parts) : Type 0 where
  pub book : d.book ≡ shelf.book
  pub told_book : told.book ≡ map bare shelf.book
  pub late : d.late ≡ shelf.late
  pub told_late : told.late ≡ option_map bare shelf.late
  pub none_late : shelf.is_closed ≡ false → shelf.late ≡ None
  pub unarmed : shelf.fuse ≡ Off
  pub there : told.there ≡ true
  pub closed : told.closed ≡ shelf.is_closed
  pub flush : FlushIs shelf.is_closed shelf.flush told.flushing d.batch x.flushed (place_of d.book).at
  pub saved : told.saved ≡ x.saved
  pub taken : told.taken ≡ x.flushed
  pub spots : EndAtSpots (place_of d.book).at x.spans d.stood
  pub floor : x.floor ≤ (place_of d.book).at
  pub cas : cas_of_last d.book < 2 ^ 64
  pub late_cas : (r : Record) → d.late ≡ Some r → cas_of_last (r ∷ d.book) < 2 ^ 64
  pub ended : IsBatchEnd x.saved (points d.book)
  pub written : (seq : ℕ) → shelf.flush ≡ Written seq → IsBatchEnd seq (points d.book)

-- the disk of a vBucket that is not there: its member loads what stands on it, and nothing else is on its way
pub record AwayAgrees (told : DiskKnown) (d : Disk) : Type 0 where
  pub told_is : told ≡ record { flushing = Flushing.Idle; book = map bare d.book; late = None; saved = (place_of d.book).at; taken = (place_of d.book).at; there = told.there; closed = false }
  pub disk : d ≡ opened d.book
  pub cas : cas_of_last d.book < 2 ^ 64

-- where there is a vBucket there is its journal; a blank one may be there before it
abbrev pub DiskIsIf : DiskKnown → Disk → Option Shelf → Option Plain → Type 0
DiskIsIf told d None None = AwayAgrees told d
DiskIsIf told d (Some shelf) None = AwayAgrees told d × (d.book ≡ []) × (shelf ≡ blank_shelf)
DiskIsIf told d None (Some vb) = ⊥
DiskIsIf told d (Some shelf) (Some vb) = ShelfIs told d shelf (parts_of vb)

-- what a vBucket saved is what the lines tell
pub saved_so : (told : DiskKnown) (d : Disk) (s : Option Shelf) (vb : Plain) → DiskIsIf told d s (Some vb) → vb.saved ≡ told.saved
saved_so told d None vb x = absurd x
saved_so told d (Some shelf) vb x = sym x.saved

-- a vBucket of the same parts
abbrev pub SameParts : Option Plain → Option Plain → Type 0
SameParts None None = Unit {0}
SameParts None (Some x) = ⊥
SameParts (Some x) None = ⊥
SameParts (Some x) (Some y) = parts_of y ≡ parts_of x

pub same_parts : (o : Option Plain) → SameParts o o
same_parts None = tt
same_parts (Some x) = refl

disk_vb : (told : DiskKnown) (d : Disk) (s : Option Shelf) (o o' : Option Plain) → SameParts o o' → DiskIsIf told d s o → DiskIsIf told d s o'
disk_vb told d None None None same x = x
disk_vb told d None (Some a) o' same x = absurd x
disk_vb told d (Some s) None None same x = x
disk_vb told d None None (Some b) same x = absurd same
disk_vb told d (Some s) None (Some b) same x = absurd same
disk_vb told d (Some s) (Some a) None same x = absurd same
disk_vb told d (Some s) (Some a) (Some b) same x = subst (ShelfIs told d s) (sym same) x

-- what is the same agrees as before
pub disk_same : {told told' : DiskKnown} {d d' : Disk} {s s' : Option Shelf} (o o' : Option Plain) → told' ≡ told → d' ≡ d → s' ≡ s → SameParts o o' → DiskIsIf told d s o → DiskIsIf told' d' s' o'
disk_same {told} {told' = told'} {d} {d' = d'} {s} {s' = s'} o o' e f g same x =
    subst (λ t. DiskIsIf t d' s' o') (sym e) (subst (λ y. DiskIsIf told y s' o') (sym f) (subst (λ y. DiskIsIf told d y o') (sym g) (disk_vb told d s o o' same x)))

-- no span goes on above what is held
pub no_spots : (at : ℕ) (stood : List Position) → EndAtSpots at no_spans stood
no_spots at stood = λ w i l. absurd i

-- a seal changes nothing of it
pub sealed_spots : (at : ℕ) (ws : Spans) (stood : List Position) → EndAtSpots at ws stood → EndAtSpots at (with_seal ws) stood
sealed_spots at ws stood x = λ w i l. x w (all_sealed ws w i) l

-- a change enters a span that ends where it does: at the position that the vBucket has then
pub grown_spots : (at seq : ℕ) (ws : Spans) (joined : Option Span) (alone : Span) (o : Origin) (stood : List Position) → Grown ws.current joined seq → alone.last ≡ seq → alone.origin ≡ o → ((w : Span) → ws.current ≡ Some w → w.origin ≡ o)
    → EndAtSpots at ws stood → EndAtSpots at (with_change ws joined alone) (span_position o seq ∷ stood)
grown_spots at seq ws None alone o stood g e from current x = λ w i l. ⊎_elim (λ k. inr (x w k l))
    (λ k. ⊎_elim (λ (s : w ≡ alone). inl (ap (λ (y : Span). span_position y.origin y.last) s ∙ (λ j. span_position (from j) (e j)))) (λ none. absurd none) k)
    (in_part w (all_spans ws) (option_to_list (Some alone)) i)
grown_spots at seq ws (Some j) alone o stood g e from current x = λ w i l. ⊎_elim (λ k. inr (x w (in_first w ws.sealed (option_to_list ws.current) k) l))
    (λ k. ⊎_elim (λ (s : w ≡ j). inl (ap (λ (y : Span). span_position y.origin y.last) s ∙ (λ t. span_position ((g.4 ∙ current g.0 g.1) t) (g.3 t)))) (λ none. absurd none) k)
    (in_part w ws.sealed (option_to_list (Some j)) i)

-- a vBucket with other spans, which end at positions of its disk
pub shelf_spanned : {told : DiskKnown} {d d' : Disk} {shelf : Shelf} {x : Parts} (ws : Spans) → ShelfIs told d shelf x → d'.book ≡ d.book → d'.batch ≡ d.batch → d'.late ≡ d.late → EndAtSpots (place_of d.book).at ws d'.stood
    → ShelfIs told d' shelf (record x { spans = ws })
shelf_spanned {told} {d} {d' = d'} {shelf} {x} ws a book batch late spots =
    let at : (place_of d'.book).at ≡ (place_of d.book).at = ap (λ b. (place_of b).at) book in
    record {
      book = book ∙ a.book;
      told_book = a.told_book;
      late = late ∙ a.late;
      told_late = a.told_late;
      none_late = a.none_late;
      unarmed = a.unarmed;
      there = a.there;
      closed = a.closed;
      flush = subst (λ b. FlushIs shelf.is_closed shelf.flush told.flushing b x.flushed (place_of d'.book).at) (sym batch) (subst (FlushIs shelf.is_closed shelf.flush told.flushing d.batch x.flushed) (sym at) a.flush);
      saved = a.saved;
      taken = a.taken;
      spots = subst (λ n. EndAtSpots n ws d'.stood) (sym at) spots;
      floor = subst (λ n. x.floor ≤ n) (sym at) a.floor;
      cas = subst (λ b. cas_of_last b < 2 ^ 64) (sym book) a.cas;
      late_cas = λ r e. subst (λ b. cas_of_last (r ∷ b) < 2 ^ 64) (sym book) (a.late_cas r (sym late ∙ e));
      ended = subst (λ b. IsBatchEnd x.saved (points b)) (sym book) a.ended;
      written = λ seq e. subst (λ b. IsBatchEnd seq (points b)) (sym book) (a.written seq e);
    }

-- a vBucket whose open span was sealed
pub sealed_shelf : {told : DiskKnown} {d : Disk} {shelf : Shelf} (x y : Parts) → y ≡ record x { spans = with_seal x.spans } → ShelfIs told d shelf x → ShelfIs told d shelf y
sealed_shelf {told} {d} {shelf} x y e a = subst (ShelfIs told d shelf) (sym e) (shelf_spanned (with_seal x.spans) a refl refl refl (sealed_spots (place_of d.book).at x.spans d.stood a.spots))

pub sealed_disk : (told : DiskKnown) (d : Disk) (s : Option Shelf) (vb vb' : Plain) → parts_of vb' ≡ record (parts_of vb) { spans = with_seal vb.spans } → DiskIsIf told d s (Some vb) → DiskIsIf told d s (Some vb')
sealed_disk told d None vb vb' e x = absurd x
sealed_disk told d (Some shelf) vb vb' e x = sealed_shelf (parts_of vb) (parts_of vb') e x
