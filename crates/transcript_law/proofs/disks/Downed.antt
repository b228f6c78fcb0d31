-- the links of a node that stops are cut, and what is told of that changes nothing else
use Rattle.std.specs.Prelude.{◌≡◌, ◌<◌, ◌≤◌, ◌∷◌, ◌++◌, ◌==◌, ◌||◌, if◌then◌else◌, cond}
use Rattle.transcript_law.proofs.Words.{ℕ, zero, suc, arith, with_id, Bool, true, false, List, [], refl, ap, sym, ◌∙◌, subst, inl, inr, ⊎_elim, Option, Some, None, filter, flat_map, eqb-true, ne_eqb, Event, StreamName, EndReason}
use Rattle.transcript_law.proofs.Words.{Cluster, Role, Move, happens, StaysSound, row_at, row_out, PlainLink, link_number, producer_node, PlainNode, PlainWorld, unlinked, Dial, Granted, Chronicle, after_end, after_line, after_lines, LawfulFrom}
use Rattle.node_world.specs.Power.{all_cut, all_unlinked, closed_line, closed_lines, down_lines, end_line, end_lines, has_client, is_this_number, is_touched, touches, all_numbers}
use Rattle.transcript_law.proofs.{invariant.Agreement.{Agrees, AgreesIn, Busy, DifferFrom, IsLink, LinksDiffer, consumer_seat, idle, producer_seat, vb_of}, disks.ArmedLines.{AreEnds}, lines.Lines.{AreQuiet}}
use Rattle.transcript_law.proofs.{invariant.Carrying.{BecameOver, SamePowers}, invariant.Carried.{kept_same, link_carried, stays_same, told_of_same}, links.Cutting.{closable, unlinking}, invariant.LinkRows.{differ_in, found_is_link, out_links, row_found}, invariant.OneLink.{carries_over}}
use Rattle.transcript_law.proofs.invariant.{Carried.{all_there}, ClientsKept.{all_kept, clients_kept, every_owed}, Tables.{at_there, id_there, ended_there}}
use Rattle.transcript_law.specs.StreamsTold.{ClientsKnown, blank_client}
use Rattle.{disk_journals.specs.Books.{below}, node_world.specs.Power.{numbers}, std.proofs.lemmas.Grind.{flat_map-append}}
use Rattle.transcript_law.proofs.invariant.Owing.{later_same}

-- lines that tell of what ends

pub ends_more : (lines more : List Event) → AreEnds lines → AreEnds more → AreEnds (lines ++ more)
ends_more [] more a b = b
ends_more (Event.Ended l reason ∷ lines) more a b = ends_more lines more a b
ends_more (Event.Closed n c ∷ lines) more a b = ends_more lines more a b
ends_more (other ∷ lines) more a b = absurd a

pub ends_quiet : (lines : List Event) → AreEnds lines → AreQuiet lines
ends_quiet [] a = tt
ends_quiet (Event.Ended l reason ∷ lines) a = (tt, ends_quiet lines a)
ends_quiet (Event.Closed n c ∷ lines) a = (tt, ends_quiet lines a)
ends_quiet (other ∷ lines) a = absurd a

-- what is read with other dials, streams, points and states
abbrev pub with_ends : Chronicle → (ℕ → Option Dial) → (StreamName → ℕ → Option Granted) → (ℕ → Option ℕ) → (ℕ → Option Role) → Chronicle
with_ends r dials streams points states = record r { dial_of = dials; stream_of = streams; point_of = points; stated_of = states }

-- and of other clients
abbrev pub with_known : Chronicle → ClientsKnown → Chronicle
with_known r clients = record r { clients_at = clients }

-- and tell of dials, streams, points and states alone, and of clients
pub ends_told : (r : Chronicle) (lines : List Event) → AreEnds lines → after_lines r lines ≡ with_known (with_ends r (after_lines r lines).dial_of (after_lines r lines).stream_of (after_lines r lines).point_of (after_lines r lines).stated_of) (after_lines r lines).clients_at
ends_told r [] a = refl
ends_told r (Event.Ended l reason ∷ lines) a = ends_told (after_end r l) lines a
ends_told r (Event.Closed n c ∷ lines) a = ends_told (after_line r (Event.Closed n c)) lines a
ends_told r (other ∷ lines) a = absurd a

-- none of them tells of the link k
abbrev pub Spare : ℕ → List Event → Type 0
Spare k [] = Unit {0}
Spare k (Event.Ended l reason ∷ lines) = (k ≡ l → ⊥) × Spare k lines
Spare k (other ∷ lines) = Spare k lines

pub spare_more : (k : ℕ) (lines more : List Event) → AreEnds lines → Spare k lines → Spare k more → Spare k (lines ++ more)
spare_more k [] more a s t = t
spare_more k (Event.Ended l reason ∷ lines) more a s t = (s.0, spare_more k lines more a s.1 t)
spare_more k (Event.Closed n c ∷ lines) more a s t = spare_more k lines more a s t
spare_more k (other ∷ lines) more a s t = absurd a

-- each link that they tell of is dialed, by this table, and is told of once
abbrev pub AreDialed : (ℕ → Option Dial) → List Event → Type 0
AreDialed dials [] = Unit {0}
AreDialed dials (Event.Ended l reason ∷ lines) = ((dial : Dial) × (dials l ≡ Some dial)) × Spare l lines × AreDialed dials lines
AreDialed dials (other ∷ lines) = AreDialed dials lines

-- so is each of the others, behind one of them
past_end : (dials : ℕ → Option Dial) (l : ℕ) (lines : List Event) → AreEnds lines → Spare l lines → AreDialed dials lines → AreDialed (with_id dials l None) lines
past_end dials l [] a s d = tt
past_end dials l (Event.Ended k reason ∷ lines) a s d = ((d.0.0, id_there dials l None k s.0 ∙ d.0.1), d.1, past_end dials l lines a s.1 d.2)
past_end dials l (Event.Closed n c ∷ lines) a s d = past_end dials l lines a s d
past_end dials l (other ∷ lines) a s d = absurd a

-- all links that they tell of have numbers below this one
abbrev EndsBelow : ℕ → List Event → Type 0
EndsBelow k [] = Unit {0}
EndsBelow k (Event.Ended l reason ∷ lines) = (l < k) × EndsBelow k lines
EndsBelow k (other ∷ lines) = EndsBelow k lines

dialed_more : (dials : ℕ → Option Dial) (k : ℕ) (lines more : List Event) → AreEnds lines → EndsBelow k lines → ((l : ℕ) → l < k → Spare l more) → AreDialed dials lines → AreDialed dials more → AreDialed dials (lines ++ more)
dialed_more dials k [] more a b s d e = e
dialed_more dials k (Event.Ended l reason ∷ lines) more a b s d e = (d.0, spare_more l lines more a d.1 (s l b.0), dialed_more dials k lines more a b.1 s d.2 e)
dialed_more dials k (Event.Closed n c ∷ lines) more a b s d e = dialed_more dials k lines more a b s d e
dialed_more dials k (other ∷ lines) more a b s d e = absurd a

below_more : (k m : ℕ) (lines more : List Event) → AreEnds lines → k ≤ m → EndsBelow k lines → EndsBelow m more → EndsBelow m (lines ++ more)
below_more k m [] more a le b e = e
below_more k m (Event.Ended l reason ∷ lines) more a le b e = (let x : l < k = b.0 in omega arith, below_more k m lines more a le b.1 e)
below_more k m (Event.Closed n c ∷ lines) more a le b e = below_more k m lines more a le b e
below_more k m (other ∷ lines) more a le b e = absurd a

-- what is told of a link is what was told before
pub record StillTold (k : ℕ) (r r' : Chronicle) : Type 0 where
  pub dial : r'.dial_of k ≡ r.dial_of k
  pub stream : (q : ℕ) → r'.stream_of (StreamName.Link k) q ≡ r.stream_of (StreamName.Link k) q
  pub state : r'.stated_of k ≡ r.stated_of k
  pub point : r'.point_of k ≡ r.point_of k

pub spared : (k : ℕ) (r : Chronicle) (lines : List Event) → AreEnds lines → Spare k lines → StillTold k r (after_lines r lines)
spared k r [] a s = record { dial = refl; stream = λ q. refl; state = refl; point = refl }
spared k r (Event.Ended l reason ∷ lines) a s =
    let x = spared k (after_end r l) lines a s.1 in
    record {
      dial = x.dial ∙ id_there r.dial_of l None k (λ e. s.0 (sym e));
      stream = λ q. x.stream q ∙ ended_there r l k q s.0;
      state = x.state ∙ id_there r.stated_of l None k (λ e. s.0 (sym e));
      point = x.point ∙ id_there r.point_of l None k (λ e. s.0 (sym e));
    }
spared k r (Event.Closed n c ∷ lines) a s = let x = spared k (after_line r (Event.Closed n c)) lines a s in record { dial = x.dial; stream = x.stream; state = x.state; point = x.point }
spared k r (other ∷ lines) a s = absurd a

-- only clients of the node n are told closed
abbrev pub ClosesAt : ℕ → List Event → Type 0
ClosesAt n [] = Unit {0}
ClosesAt n (Event.Closed m c ∷ lines) = (m ≡ n) × ClosesAt n lines
ClosesAt n (other ∷ lines) = ClosesAt n lines

closes_more : (n : ℕ) (lines more : List Event) → AreEnds lines → ClosesAt n lines → ClosesAt n more → ClosesAt n (lines ++ more)
closes_more n [] more a c d = d
closes_more n (Event.Ended l reason ∷ lines) more a c d = closes_more n lines more a c d
closes_more n (Event.Closed m k ∷ lines) more a c d = (c.0, closes_more n lines more a c.1 d)
closes_more n (other ∷ lines) more a c d = absurd a

-- so nothing is told of those of other nodes
pub closed_there : (n : ℕ) (r : Chronicle) (lines : List Event) → AreEnds lines → ClosesAt n lines → (m c : ℕ) → (m ≡ n → ⊥) → (after_lines r lines).clients_at m c ≡ r.clients_at m c
closed_there n r [] a s m c ne = refl
closed_there n r (Event.Ended l reason ∷ lines) a s m c ne = closed_there n (after_end r l) lines a s m c ne
closed_there n r (Event.Closed k d ∷ lines) a s m c ne = closed_there n (after_line r (Event.Closed k d)) lines a s.1 m c ne ∙ at_there r.clients_at k d blank_client m c (λ e f. ne (e ∙ s.0))
closed_there n r (other ∷ lines) a s m c ne = absurd a

-- they are lawful, and say nothing of those behind them, where each link that they tell of is dialed, and the connections end with their node
pub ends_lawful : (n : ℕ) (r : Chronicle) (lines : List Event) → AreEnds lines → ClosesAt n lines → ((c : ℕ) → r.conn_at n c ≡ false) → AreDialed r.dial_of lines → LawfulFrom r lines
ends_lawful n r [] a s gone d = tt
ends_lawful n r (Event.Ended l reason ∷ lines) a s gone d = (d.0, ends_lawful n (after_end r l) lines a s gone (past_end r.dial_of l lines a d.1 d.2))
ends_lawful n r (Event.Closed m c ∷ lines) a s gone d = ((λ opened. let z : true ≡ false = sym opened ∙ ap (λ k. r.conn_at k c) s.0 ∙ gone c in cc), ends_lawful n (after_line r (Event.Closed m c)) lines a s.1 gone d)
ends_lawful n r (other ∷ lines) a s gone d = absurd a

-- what is told of a node that stops

-- lines of numbers, each of which tells of ends
flat_ends : (f : ℕ → List Event) → ((l : ℕ) → AreEnds (f l)) → (ls : List ℕ) → AreEnds (flat_map f ls)
flat_ends f h [] = tt
flat_ends f h (l ∷ ls) = ends_more (f l) (flat_map f ls) (h l) (flat_ends f h ls)

flat_spare : (k : ℕ) (f : ℕ → List Event) → ((l : ℕ) → AreEnds (f l)) → ((l : ℕ) → Spare k (f l)) → (ls : List ℕ) → Spare k (flat_map f ls)
flat_spare k f h s [] = tt
flat_spare k f h s (l ∷ ls) = spare_more k (f l) (flat_map f ls) (h l) (s l) (flat_spare k f h s ls)

flat_closes : (n : ℕ) (f : ℕ → List Event) → ((l : ℕ) → AreEnds (f l)) → ((l : ℕ) → ClosesAt n (f l)) → (ls : List ℕ) → ClosesAt n (flat_map f ls)
flat_closes n f h s [] = tt
flat_closes n f h s (l ∷ ls) = closes_more n (f l) (flat_map f ls) (h l) (s l) (flat_closes n f h s ls)

one_end : (n : ℕ) (also : Option ℕ) (links : List PlainLink) (l : ℕ) → AreEnds (end_line n also links l)
one_end n also links l = elim (is_this_number l also || is_touched n (row_at link_number l links)) as (λ b. AreEnds (if b then Event.Ended l EndReason.Cut ∷ [] else [])) [ true ↦ tt | false ↦ tt ]

one_closed : (n : ℕ) (node : Option PlainNode) (c : ℕ) → AreEnds (closed_line n node c)
one_closed n node c = elim (has_client c node) as (λ b. AreEnds (if b then Event.Closed n c ∷ [] else [])) [ true ↦ tt | false ↦ tt ]

pub down_ends : (n : ℕ) (also : Option ℕ) (w : PlainWorld) → AreEnds (down_lines n also w)
down_ends n also w = ends_more (end_lines n also w.links) (closed_lines n (w.nodes n)) (flat_ends (end_line n also w.links) (one_end n also w.links) all_numbers) (flat_ends (closed_line n (w.nodes n)) (one_closed n (w.nodes n)) all_numbers)

-- its own clients are told closed
pub down_closes : (n : ℕ) (also : Option ℕ) (w : PlainWorld) → ClosesAt n (down_lines n also w)
down_closes n also w = closes_more n (end_lines n also w.links) (closed_lines n (w.nodes n)) (flat_ends (end_line n also w.links) (one_end n also w.links) all_numbers)
    (flat_closes n (end_line n also w.links) (one_end n also w.links) (λ l. elim (is_this_number l also || is_touched n (row_at link_number l w.links)) as (λ b. ClosesAt n (if b then Event.Ended l EndReason.Cut ∷ [] else [])) [ true ↦ tt | false ↦ tt ]) all_numbers)
    (flat_closes n (closed_line n (w.nodes n)) (one_closed n (w.nodes n)) (λ c. elim (has_client c (w.nodes n)) as (λ b. ClosesAt n (if b then Event.Closed n c ∷ [] else [])) [ true ↦ (refl, tt) | false ↦ tt ]) all_numbers)

-- the links of these numbers are dialed, of which an end is told
module _ (dials : ℕ → Option Dial) (n : ℕ) (also : Option ℕ) (links : List PlainLink) (node : Option PlainNode)
    (known : (l : ℕ) → (is_this_number l also || is_touched n (row_at link_number l links)) ≡ true → (dial : Dial) × (dials l ≡ Some dial)) where
  one_dialed : (k : ℕ) → AreDialed dials (end_line n also links k ++ []) × EndsBelow (suc k) (end_line n also links k ++ []) × ((l : ℕ) → l < k → Spare l (end_line n also links k ++ []))
  one_dialed k = by (is_this_number k also || is_touched n (row_at link_number k links)) (known k)
    where
      by : (b : Bool) → (b ≡ true → (dial : Dial) × (dials k ≡ Some dial))
          → (let lines = (if b then Event.Ended k EndReason.Cut ∷ [] else []) ++ [] in AreDialed dials lines × EndsBelow (suc k) lines × ((l : ℕ) → l < k → Spare l lines))
      by true is = ((is refl, tt, tt), (omega arith, tt), λ l low. ((λ e. omega (arith, low, e)), tt))
      by false is = (tt, tt, λ l low. tt)

  below_dialed : (k : ℕ) → AreDialed dials (flat_map (end_line n also links) (below k)) × EndsBelow k (flat_map (end_line n also links) (below k))
  below_dialed zero = (tt, tt)
  below_dialed (suc k) =
      let f : ℕ → List Event = end_line n also links in let older = below_dialed k in let last = one_dialed k in
      let ends : AreEnds (flat_map f (below k)) = flat_ends f (one_end n also links) (below k) in
      let same : flat_map f (below k ++ k ∷ []) ≡ flat_map f (below k) ++ (f k ++ []) = flat_map-append f (below k) (k ∷ []) in (
        subst (AreDialed dials) (sym same) (dialed_more dials k (flat_map f (below k)) (f k ++ []) ends older.1 last.2 older.0 last.0),
        subst (EndsBelow (suc k)) (sym same) (below_more k (suc k) (flat_map f (below k)) (f k ++ []) ends (omega arith) older.1 last.1),
      )

  closed_spare : (l : ℕ) (ls : List ℕ) → Spare l (flat_map (closed_line n node) ls)
  closed_spare l ls = flat_spare l (closed_line n node) (one_closed n node) (λ c. elim (has_client c node) as (λ b. Spare l (if b then Event.Closed n c ∷ [] else [])) [ true ↦ tt | false ↦ tt ]) ls

  closed_dialed : (ls : List ℕ) → AreDialed dials (flat_map (closed_line n node) ls)
  closed_dialed [] = tt
  closed_dialed (c ∷ cs) = elim (has_client c node) as (λ b. AreDialed dials ((if b then Event.Closed n c ∷ [] else []) ++ flat_map (closed_line n node) cs)) [ true ↦ closed_dialed cs | false ↦ closed_dialed cs ]

  both_dialed : (k : ℕ) (ls : List ℕ) → ls ≡ below k → AreDialed dials (flat_map (end_line n also links) ls ++ flat_map (closed_line n node) ls)
  both_dialed k ls e = subst (λ xs. AreDialed dials (flat_map (end_line n also links) xs ++ flat_map (closed_line n node) xs)) (sym e)
      (let x = below_dialed k in dialed_more dials k (flat_map (end_line n also links) (below k)) (flat_map (closed_line n node) (below k)) (flat_ends (end_line n also links) (one_end n also links) (below k)) x.1 (λ l low. closed_spare l (below k)) x.0 (closed_dialed (below k)))

-- all numbers are those below their limit
numbers_are : all_numbers ≡ below numbers
unfolding all_numbers
numbers_are = refl

-- each link that ends with the node is dialed
pub down_dialed : {busy : Busy} (w : PlainWorld) (r : Chronicle) (c : Cluster) (n : ℕ) (also : Option ℕ) → AgreesIn busy w r c → ((l : ℕ) → is_this_number l also ≡ true → (dial : Dial) × (r.dial_of l ≡ Some dial)) → AreDialed r.dial_of (down_lines n also w)
down_dialed w r c n also a besides = both_dialed r.dial_of n also w.links (w.nodes n) (λ l. by l (is_this_number l also) refl (row_at link_number l w.links) refl) numbers all_numbers numbers_are
  where
    by : (l : ℕ) (b : Bool) → is_this_number l also ≡ b → (o : Option PlainLink) → row_at link_number l w.links ≡ o → (b || is_touched n o) ≡ true → (dial : Dial) × (r.dial_of l ≡ Some dial)
    by l true is o e t = besides l is
    by l false is None e t = cc
    by l false is (Some link) e t = let found = found_is_link l w.links link e in (_, ap r.dial_of (sym found.1) ∙ (a.links link found.0).dialed)

-- the number that is told of besides is that of no link
abbrev pub IsFree : Option ℕ → List PlainLink → Type 0
IsFree also links = (x : PlainLink) → IsLink x links → is_this_number (link_number x) also ≡ false

pub none_free : (links : List PlainLink) → IsFree None links
none_free links x i = refl

pub some_free : (l : ℕ) (links : List PlainLink) → ((x : PlainLink) → IsLink x links → link_number x ≡ l → ⊥) → IsFree (Some l) links
some_free l links other x i = ne_eqb (link_number x) l (other x i)

-- links by their numbers

-- it stays where one of another number is taken out
out_in : (l : ℕ) (links : List PlainLink) (x : PlainLink) → IsLink x links → (link_number x ≡ l → ⊥) → IsLink x (row_out link_number l links)
out_in l [] x i ne = absurd i
out_in l (z ∷ zs) x i ne = elim (link_number z == l) as (λ b. (link_number z == l) ≡ b → IsLink x (if b then zs else z ∷ row_out link_number l zs)) [
  | true ↦ λ t. ⊎_elim (λ e. absurd (ne (ap link_number e ∙ eqb-true (link_number z) l t))) (λ j. j) i
  | false ↦ λ t. ⊎_elim (λ e. inl e) (λ j. inr (out_in l zs x j ne)) i
] refl

-- those that pass a test
module _ (p : PlainLink → Bool) where
  passed : (links : List PlainLink) (x : PlainLink) → IsLink x (filter p links) → IsLink x links
  passed [] x i = absurd i
  passed (y ∷ ys) x i = elim (p y) as (λ b. IsLink x (cond b (y ∷ filter p ys) (filter p ys)) → IsLink x (y ∷ ys)) [ true ↦ λ j. ⊎_elim (λ e. inl e) (λ k. inr (passed ys x k)) j | false ↦ λ j. inr (passed ys x j) ] i

  passes : (links : List PlainLink) (x : PlainLink) → IsLink x links → p x ≡ true → IsLink x (filter p links)
  passes [] x i e = absurd i
  passes (y ∷ ys) x i e = elim (p y) as (λ b. p y ≡ b → IsLink x (cond b (y ∷ filter p ys) (filter p ys))) [
    | true ↦ λ t. ⊎_elim (λ s. inl s) (λ k. inr (passes ys x k e)) i
    | false ↦ λ t. ⊎_elim (λ s. let z : true ≡ false = sym e ∙ ap p s ∙ t in cc) (λ k. passes ys x k e) i
  ] refl

  differ_from_passed : (x : PlainLink) (ys : List PlainLink) → DifferFrom x ys → DifferFrom x (filter p ys)
  differ_from_passed x [] d = tt
  differ_from_passed x (y ∷ ys) d = elim (p y) as (λ b. DifferFrom x (cond b (y ∷ filter p ys) (filter p ys))) [ true ↦ (d.0, differ_from_passed x ys d.1) | false ↦ differ_from_passed x ys d.1 ]

  differ_passed : (links : List PlainLink) → LinksDiffer links → LinksDiffer (filter p links)
  differ_passed [] d = tt
  differ_passed (y ∷ ys) d = elim (p y) as (λ b. LinksDiffer (cond b (y ∷ filter p ys) (filter p ys))) [ true ↦ (differ_from_passed y ys d.0, differ_passed ys d.1) | false ↦ differ_passed ys d.1 ]

-- links are cut, one after another

-- the nodes have the arms that they had, and none stopped or started
same_powers : (w w' : PlainWorld) (link : PlainLink) → BecameOver w w' link → SamePowers w w'
same_powers w w' link over = ⊎_elim (λ same. same.powers) (λ closed. closed.6.powers) over

-- after these links were cut, with what was read before
pub record LinksCut (xs : List PlainLink) (w : PlainWorld) (r : Chronicle) : Type 0 where
  pub cluster : Cluster
  pub agrees : AgreesIn idle (all_unlinked xs w) r cluster
  pub left : (x : PlainLink) → IsLink x (all_unlinked xs w).links → IsLink x w.links × ((y : PlainLink) → IsLink y xs → link_number x ≡ link_number y → ⊥)
  pub powers : SamePowers w (all_unlinked xs w)

module _ (stays : StaysSound) (r : Chronicle) where
  cut_one : (w : PlainWorld) (c : Cluster) (link : PlainLink) (a : AgreesIn idle w r c) → IsLink link w.links → AgreesIn idle (unlinked link w) r (happens c (Move.Cut (consumer_seat link)))
  cut_one w c link a i = carries_over idle idle w (unlinked link w) r r c (link_number link) link a (row_found w.links link a.differ i)
      (unlinking stays w link (closable idle w r c link [] [] a (a.links link i))) (told_of_same (link_number link) r) (λ k ne. refl)

  cut_links : (xs : List PlainLink) (w : PlainWorld) (c : Cluster) → AgreesIn idle w r c → LinksDiffer xs → ((x : PlainLink) → IsLink x xs → IsLink x w.links) → LinksCut xs w r
  cut_links [] w c a d among = record { cluster = c; agrees = a; left = λ x i. (i, λ y j. absurd j); powers = λ m. refl }
  cut_links (x ∷ xs) w c a d among =
      let i = among x (inl refl) in
      let over = unlinking stays w x (closable idle w r c x [] [] a (a.links x i)) in
      let rest = cut_links xs (unlinked x w) (happens c (Move.Cut (consumer_seat x))) (cut_one w c x a i) d.1
      (λ y j. out_in (link_number x) w.links y (among y (inr j)) (λ e. (differ_in x y xs d.0 j).number (sym e))) in
      record {
        cluster = rest.cluster;
        agrees = rest.agrees;
        left = λ y j.
            let q = rest.left y j in let p = out_links (link_number x) w.links x y a.differ (row_found w.links x a.differ i) q.0 in
            (p.0, λ z k. ⊎_elim (λ e. λ f. p.1 (f ∙ ap link_number e)) (λ m. q.1 z m) k);
        powers = λ m. rest.powers m ∙ same_powers w (unlinked x w) x over m;
      }

-- what is told of links that are gone does not matter
retold : (w : PlainWorld) (r : Chronicle) (c : Cluster) (dials : ℕ → Option Dial) (streams : StreamName → ℕ → Option Granted) (points : ℕ → Option ℕ) (states : ℕ → Option Role) → AgreesIn idle w r c
    → ((x : PlainLink) → IsLink x w.links → StillTold (link_number x) r (with_ends r dials streams points states)) → AgreesIn idle w (with_ends r dials streams points states) c
retold w r c dials streams points states a still = record {
  sound = a.sound;
  vbs = a.vbs;
  disks = a.disks;
  branches = a.branches;
  links = λ x i. let s = still x i in
      link_carried w w r (with_ends r dials streams points states) c c x [] [] (λ f e. (f, e, kept_same f)) s.dial (s.stream x.consumer.dialed.vb) s.state s.point refl
      (stays_same (vb_of w (producer_node x) x.consumer.dialed.vb) (c.nodes (producer_seat x)) x) (a.links x i);
  differ = a.differ;
  clients = let kept = all_kept w w r (with_ends r dials streams points states) (λ m d. refl) (λ m d. refl) refl (λ n v. refl) (λ n v. refl) in
      clients_kept w w r (with_ends r dials streams points states) 0 a.clients (all_there idle w r c a) kept (λ l n v id has. inl has)
      (every_owed w w r (with_ends r dials streams points states) kept (later_same _ _ refl refl) (λ n v x p o. o) a.clients.owed);
  rests = record { powers = a.powers; clocks = a.clocks; aways = a.aways; downs = a.downs; ends = a.ends; small = a.small };
}

-- the world in which no link has an end at the node n any more, with what was told of those that had; its clients are told closed later
pub record Downed (w : PlainWorld) (r r' : Chronicle) (n : ℕ) : Type 0 where
  pub cluster : Cluster
  pub agrees : AgreesIn idle (all_cut n w) (with_known r' r.clients_at) cluster
  pub others : (m c : ℕ) → (m ≡ n → ⊥) → r'.clients_at m c ≡ r.clients_at m c
  pub apart : (x : PlainLink) → IsLink x (all_cut n w).links → touches n x ≡ false
  pub powers : SamePowers w (all_cut n w)

module _ (stays : StaysSound) (w : PlainWorld) (r : Chronicle) (c : Cluster) (n : ℕ) (also : Option ℕ) (a : AgreesIn idle w r c) (free : IsFree also w.links) where
  abbrev gone : List PlainLink
  gone = filter (touches n) w.links

  abbrev lines : List Event
  lines = down_lines n also w

  were_cut : LinksCut gone w r
  were_cut = cut_links stays r gone w c a (differ_passed (touches n) w.links a.differ) (passed (touches n) w.links)

  -- those that are left have no end there
  untouched : (x : PlainLink) → IsLink x (all_cut n w).links → touches n x ≡ false
  untouched x i = by (touches n x) refl
    where
      by : (b : Bool) → touches n x ≡ b → b ≡ false
      by false e = refl
      by true e = let q = were_cut.left x i in absurd (q.1 x (passes (touches n) w.links x q.0 e) refl)

  -- and nothing is told of them
  spares : (x : PlainLink) → IsLink x (all_cut n w).links → Spare (link_number x) lines
  spares x i = spare_more (link_number x) (end_lines n also w.links) (closed_lines n (w.nodes n)) (flat_ends (end_line n also w.links) (one_end n also w.links) all_numbers)
      (flat_spare (link_number x) (end_line n also w.links) (one_end n also w.links) (λ l. one l) all_numbers)
      (flat_spare (link_number x) (closed_line n (w.nodes n)) (one_closed n (w.nodes n)) (λ l. closed l) all_numbers)
    where
      there : IsLink x w.links
      there = (were_cut.left x i).0

      not_told : (is_this_number (link_number x) also || is_touched n (row_at link_number (link_number x) w.links)) ≡ false
      not_told = ap (λ b. b || is_touched n (row_at link_number (link_number x) w.links)) (free x there) ∙ ap (is_touched n) (row_found w.links x a.differ there) ∙ untouched x i

      one : (l : ℕ) → Spare (link_number x) (end_line n also w.links l)
      one l = elim (is_this_number l also || is_touched n (row_at link_number l w.links))
          as (λ b. (is_this_number l also || is_touched n (row_at link_number l w.links)) ≡ b → Spare (link_number x) (if b then Event.Ended l EndReason.Cut ∷ [] else [])) [
            | true ↦ λ t. (λ e. let z : true ≡ false = sym t ∙ ap (λ k. is_this_number k also || is_touched n (row_at link_number k w.links)) (sym e) ∙ not_told in cc, tt)
            | false ↦ λ t. tt
          ] refl

      closed : (l : ℕ) → Spare (link_number x) (closed_line n (w.nodes n) l)
      closed l = elim (has_client l (w.nodes n)) as (λ b. Spare (link_number x) (if b then Event.Closed n l ∷ [] else [])) [ true ↦ tt | false ↦ tt ]

  pub downed : Downed w r (after_lines r lines) n
  downed =
      let ends : AreEnds lines = down_ends n also w in
      let same = ends_told r lines ends in
      record {
        cluster = were_cut.cluster;
        agrees = subst (λ q. AgreesIn idle (all_cut n w) q were_cut.cluster) (sym (ap (λ q. with_known q r.clients_at) same))
            (retold (all_cut n w) r were_cut.cluster (after_lines r lines).dial_of (after_lines r lines).stream_of (after_lines r lines).point_of (after_lines r lines).stated_of were_cut.agrees
            (λ x i. let s = spared (link_number x) r lines ends (spares x i) in record { dial = s.dial; stream = s.stream; state = s.state; point = s.point }));
        others = closed_there n r lines ends (down_closes n also w);
        apart = untouched;
        powers = were_cut.powers;
      }

-- the end of a link that is no more
pub end_agrees : (w : PlainWorld) (r : Chronicle) (l : ℕ) → Agrees w r → ((x : PlainLink) → IsLink x w.links → link_number x ≡ l → ⊥) → Agrees w (after_end r l)
end_agrees w r l (c, a) other = (c, retold w r c (after_end r l).dial_of (after_end r l).stream_of (after_end r l).point_of (after_end r l).stated_of a (λ x i. spared (link_number x) r (Event.Ended l EndReason.Disk ∷ []) tt (other x i, tt)))
