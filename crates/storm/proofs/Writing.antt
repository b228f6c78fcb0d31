-- what clients store, call by call
use Rattle.std.proofs.Common.{◌≡◌, ◌≢◌, ℕ, zero, suc, ◌+◌, ◌*◌, ◌/◌, ◌%◌, ◌^◌, ◌<◌, ◌≤◌, Bool, true, false, cond, List, [], ◌∷◌, ◌++◌, length, map, get_or, set, take, refl, sym, ap, ◌∙◌, subst, arith, append_assoc, append-nil}
use Rattle.std.specs.Prelude.{◌==◌, Result, Ok, Err, IfOk, Vec}
use Rattle.std.specs.Global.{Global}
use Rattle.std.specs.List.{AllByRecursion, filter, range_with_len}
use Rattle.std.specs.declared.alloc.AllocError.{AllocError}
use Rattle.std.proofs.lemmas.Bool.{eqb-true, eq-eqb, false_from_ne_true}
use Rattle.std.proofs.lemmas.List.Elements.{filter-append}
use Rattle.vb_types.specs.declared.write.Write.{Write}
use Rattle.vb_calls.specs.declared.calls.VbCall.TheVariants as call
use Rattle.vb_calls.specs.declared.calls.VbReply.{VbReply}
use Rattle.vb_turn.specs.Turning.{all_parts, left}
use Rattle.vbucket.specs.Highs.{high_of}
use Rattle.vbucket.specs.Stands.{StandsFor}
use Rattle.node_threads.specs.declared.slot.SeatSlot.{SeatSlot}
use Rattle.node_threads.specs.Seats.{CalledVb, Row, rows_of}
use Rattle.storm_model.specs.declared.writes.Aimed.{Aimed}
use Rattle.storm_model.specs.Limits.{is_storm}
use Rattle.storm_model.specs.Writes.{all_writes, aimed, vb_of_word, word_at, writes_of}
use Rattle.storm_model.proofs.Agreeing.{in_limits}
use Rattle.storm_seats.specs.Gathering.{AllFrom, Gathers, Stormed}
use Rattle.storm_seats.specs.Views.{Entry, Wrote}
use Rattle.storm_seats.proofs.Gathered.{given_away, given_knows, stormed, taken_in}
use Rattle.storm_seats.proofs.Seats.{map_append, wrote_more, wrote_none}
use Rattle.storm.specs.declared.clients.Client.{Client}
use Rattle.storm.specs.declared.plan.Plan.{Plan}
use Rattle.storm.specs.Clients.{AreAimed, AreClients, HasWorked, HaveFour, HaveWritten, writes_for}
use Rattle.storm.specs.Rows.{AllThree, AllTwo, AreOpened, AreStormed, HaveMore, IsOpened, IsStormed, Joins, MayJoin, SameTurn, given, gives}
use Rattle.storm.proofs.Lists.{from_at, from_more, rows_length, two_at, two_length}

-- ---- one client's writes

abbrev pub Wrote_to : List Aimed → ℕ → Row → Row → Type 0
Wrote_to aims v x y = SameTurn x y × Wrote StandsFor (writes_for v aims) x.view y.view

pub none_written : (n : ℕ) (xs : List Row) → AllTwo (Wrote_to []) n xs xs
none_written n [] = tt
none_written n (x ∷ xs) = (((refl, refl), wrote_none StandsFor high_of x.view), none_written (suc n) xs)

for_more : (v : ℕ) (done : List Aimed) (a : Aimed) → writes_for v (done ++ a ∷ []) ≡ writes_for v done ++ map (λ b. b.write) (cond (a.vb == v) (a ∷ []) [])
for_more v done a = ap (map (λ b. b.write)) (filter-append (λ b. b.vb == v) done (a ∷ [])) ∙ map_append (λ b. b.write) (filter (λ b. b.vb == v) done) (cond (a.vb == v) (a ∷ []) [])

for_own : (v : ℕ) (done : List Aimed) (a : Aimed) → a.vb ≡ v → writes_for v (done ++ a ∷ []) ≡ writes_for v done ++ a.write ∷ []
for_own v done a e = for_more v done a ∙ ap (λ b. writes_for v done ++ map (λ b. b.write) (cond b (a ∷ []) [])) (eq-eqb a.vb v e)

for_other : (v : ℕ) (done : List Aimed) (a : Aimed) → a.vb ≢ v → writes_for v (done ++ a ∷ []) ≡ writes_for v done
for_other v done a ne = for_more v done a ∙ ap (λ b. writes_for v done ++ map (λ b. b.write) (cond b (a ∷ []) [])) (false_from_ne_true (a.vb == v) (λ t. ne (eqb-true a.vb v t))) ∙ append-nil (writes_for v done)

others_stay : (n : ℕ) (done : List Aimed) (a : Aimed) (xs ys : List Row) → a.vb < n → AllTwo (Wrote_to done) n xs ys → AllTwo (Wrote_to (done ++ a ∷ [])) n xs ys
others_stay n done a [] [] l h = tt
others_stay n done a [] (y ∷ ys) l h = absurd h
others_stay n done a (x ∷ xs) [] l h = absurd h
others_stay n done a (x ∷ xs) (y ∷ ys) l h = (
  (h.0.0, subst (λ ws. Wrote StandsFor ws x.view y.view) (sym (for_other n done a (λ e. let z : a.vb ≡ n = e in omega arith))) h.0.1),
  others_stay (suc n) done a xs ys (omega arith) h.1,
)

written_more : (n i : ℕ) (done : List Aimed) (a : Aimed) (xs ys : List Row) (y z : Row) (reply : VbReply) → n + i ≡ a.vb → i < length ys → AllTwo (Wrote_to done) n xs ys
    → y ≡ get_or ys i y → SameTurn y z → CalledVb y.view (call.Store a.write 0) reply z.view → AllTwo (Wrote_to (done ++ a ∷ [])) n xs (set ys i z)
written_more n i done a xs [] y z reply at l h e same called = absurd (omega arith)
written_more n i done a [] (w ∷ ys) y z reply at l h e same called = absurd h
written_more n zero done a (x ∷ xs) (w ∷ ys) y z reply at l h e same called =
    let own : a.vb ≡ n = omega arith in
    let was : Wrote_to done n x y = subst (Wrote_to done n x) (sym e) h.0 in (
      (
        (same.0 ∙ was.0.0, same.1 ∙ was.0.1),
        subst (λ ws. Wrote StandsFor ws x.view z.view) (sym (for_own n done a own)) (wrote_more StandsFor high_of (writes_for n done) a.write x.view y.view z.view reply was.1 called),
      ),
      others_stay (suc n) done a xs ys (omega arith) h.1,
    )
written_more n (suc i) done a (x ∷ xs) (w ∷ ys) y z reply at l h e same called = (
  (h.0.0, subst (λ ws. Wrote StandsFor ws x.view w.view) (sym (for_other n done a (λ s. let z : a.vb ≡ n = s in omega arith))) h.0.1),
  written_more (suc n) i done a xs ys y z reply (omega arith) (omega arith) h.1 e same called,
)

-- a write more
pub have_more : (done : List Aimed) (a : Aimed) (xs ys : List Row) (y z : Row) (reply : VbReply) → a.vb < length ys → HaveWritten done xs ys
    → y ≡ get_or ys a.vb y → SameTurn y z → CalledVb y.view (call.Store a.write 0) reply z.view → HaveWritten (done ++ a ∷ []) xs (set ys a.vb z)
have_more done a xs ys y z reply l h e same called = written_more 0 a.vb done a xs ys y z reply (omega arith) l h e same called

aimed_each : (c : ℕ) (word : ℕ → ℕ) (is : List ℕ) → AreAimed (map (λ i. aimed c (word i) i) is)
aimed_each c word [] = tt
aimed_each c word (i ∷ is) = (omega arith, aimed_each c word is)

-- a client's writes are for four vBuckets
pub are_aimed : (seed c writes : ℕ) → AreAimed (all_writes seed c writes)
unfolding all_writes
are_aimed seed c writes = aimed_each c (word_at seed c) (range_with_len 1 writes)

-- what is still to come, behind what was stored
pub record Storing (all rest : List Aimed) (xs ys : List Row) : Type 0 where
  pub done : List Aimed
  pub split : done ++ rest ≡ all
  pub have : HaveWritten done xs ys
  pub aimed : AreAimed rest

pub storing_none : (all : List Aimed) (xs : List Row) → AreAimed all → Storing all all xs xs
storing_none all xs a = record { done = []; split = refl; have = none_written 0 xs; aimed = a }

pub storing_room : (all rest after : List Aimed) (a : Aimed) (xs ys : List Row) → Storing all rest xs ys → rest ≡ a ∷ after → length xs ≡ 4 → a.vb < length ys
storing_room all rest after a xs ys s e l =
    let n : length ys ≡ length xs = two_length (Wrote_to s.done) 0 xs ys s.have in
    let aimed : AreAimed (a ∷ after) = subst AreAimed e s.aimed in
    let low : a.vb < 4 = aimed.0 in omega arith

pub storing_more : (all rest after : List Aimed) (a : Aimed) (xs ys : List Row) (y z : Row) (reply : VbReply) → Storing all rest xs ys → rest ≡ a ∷ after → length xs ≡ 4
    → y ≡ get_or ys a.vb y → SameTurn y z → CalledVb y.view (call.Store a.write 0) reply z.view → Storing all after xs (set ys a.vb z)
storing_more all rest after a xs ys y z reply s e l here same called = record {
  done = s.done ++ a ∷ [];
  split = append_assoc s.done (a ∷ []) after ∙ ap (λ r. s.done ++ r) (sym e) ∙ s.split;
  have = have_more s.done a xs ys y z reply (storing_room all rest after a xs ys s e l) s.have here same called;
  aimed = let aimed : AreAimed (a ∷ after) = subst AreAimed e s.aimed in aimed.1;
}

pub storing_all : (all rest : List Aimed) (xs ys : List Row) → Storing all rest xs ys → rest ≡ [] → HaveWritten all xs ys
storing_all all rest xs ys s e = subst (λ w. HaveWritten w xs ys) (sym (append-nil s.done) ∙ ap (λ r. s.done ++ r) (sym e) ∙ s.split) s.have

-- ---- all clients, one after the other

-- the seat of vBucket v once it took in the seats of k of so many clients
pub record IsMain (seed writes count k v : ℕ) (x w : Row) : Type 0 where
  pub same : SameTurn x w
  pub parts : List (List (ℕ × Entry))
  pub many : length parts ≡ k
  pub out : ℕ
  pub left_out : out + k ≡ count
  pub gathers : Gathers StandsFor seed writes v out parts w.view

pub none_taken : (seed writes count n : ℕ) (xs : List Row) → 1 ≤ count → count ≤ 64 → AllFrom IsOpened n xs → AllTwo (IsMain seed writes count 0) n xs (map (gives count) xs)
none_taken seed writes count n [] l h a = tt
none_taken seed writes count n (x ∷ xs) l h a = (
  record {
    same = (refl, refl);
    parts = [];
    many = refl;
    out = count;
    left_out = omega arith;
    gathers = subst (λ o. Gathers StandsFor seed writes n o [] (left count x.view)) (let e : 0 + count ≡ count = omega arith in e)
        (given_away StandsFor high_of seed writes n 0 count x.view (a.0.gathers seed writes) (omega arith) (let c = (a.0.gathers seed writes).count in omega arith));
  },
  none_taken seed writes count (suc n) xs l h a.1,
)

pub may_join : (seed writes count k n : ℕ) (xs ws us : List Row) (aims : List Aimed) → AllTwo (IsMain seed writes count k) n xs ws → AllTwo (Wrote_to aims) n (map given xs) us → AllTwo (λ n x u. x.table ≡ u.table) n ws us
may_join seed writes count k n [] [] [] aims m h = tt
may_join seed writes count k n [] [] (u ∷ us) aims m h = absurd h
may_join seed writes count k n [] (w ∷ ws) us aims m h = absurd m
may_join seed writes count k n (x ∷ xs) [] us aims m h = absurd m
may_join seed writes count k n (x ∷ xs) (w ∷ ws) [] aims m h = absurd h
may_join seed writes count k n (x ∷ xs) (w ∷ ws) (u ∷ us) aims m h = (m.0.same.1 ∙ sym h.0.0.1, may_join seed writes count k (suc n) xs ws us aims m.1 h.1)

out_more : (out k count : ℕ) → out + k ≡ count → k < count → (o : ℕ) × (out ≡ suc o)
out_more zero k count e l = absurd (omega arith)
out_more (suc o) k count e l = (o, refl)

main_more : (seed writes count k v : ℕ) (x u w z : Row) → k < count → IsOpened v x → IsMain seed writes count k v x w → Wrote_to (all_writes seed k writes) v (given x) u → Joins w u z → IsMain seed writes count (suc k) v x z
main_more seed writes count k v x u w z l o m h j =
    let s = out_more m.out k count m.left_out l in
    let g = subst (λ n. Gathers StandsFor seed writes v n m.parts w.view) s.1 m.gathers in
    let own : Wrote StandsFor (writes_of seed (length m.parts) writes v) (given x).view u.view = subst (λ c. Wrote StandsFor (writes_of seed c writes v) (given x).view u.view) (sym m.many) h.1 in
    let k0 = given_knows StandsFor high_of v 1 x.view (o.gathers seed writes).knows in
    let t = taken_in StandsFor high_of seed writes v s.0 m.parts w.view (given x).view u.view z.view g k0 o.seen refl refl own j.1 in
    record {
      same = (j.0.0 ∙ m.same.0, j.0.1 ∙ m.same.1);
      parts = m.parts ++ t.0 ∷ [];
      many = one m.parts t.0 ∙ ap suc m.many;
      out = s.0;
      left_out = let a = s.1 in let b = m.left_out in omega arith;
      gathers = t.1;
    }
  where
    one : {A : Type 0} (ys : List A) (y : A) → length (ys ++ y ∷ []) ≡ suc (length ys)
    one [] y = refl
    one (b ∷ ys) y = ap suc (one ys y)

pub mains_more : (seed writes count k n : ℕ) (xs us ws zs : List Row) → k < count → AllFrom IsOpened n xs → AllTwo (IsMain seed writes count k) n xs ws → AllTwo (Wrote_to (all_writes seed k writes)) n (map given xs) us
    → AllThree Joins ws us zs → AllTwo (IsMain seed writes count (suc k)) n xs zs
mains_more seed writes count k n [] [] [] [] l o m h j = tt
mains_more seed writes count k n [] [] [] (z ∷ zs) l o m h j = absurd j
mains_more seed writes count k n [] (u ∷ us) ws zs l o m h j = absurd h
mains_more seed writes count k n [] [] (w ∷ ws) zs l o m h j = absurd m
mains_more seed writes count k n (x ∷ xs) us [] zs l o m h j = absurd m
mains_more seed writes count k n (x ∷ xs) [] (w ∷ ws) zs l o m h j = absurd h
mains_more seed writes count k n (x ∷ xs) (u ∷ us) (w ∷ ws) [] l o m h j = absurd j
mains_more seed writes count k n (x ∷ xs) (u ∷ us) (w ∷ ws) (z ∷ zs) l o m h j = (main_more seed writes count k n x u w z l o.0 m.0 h.0 j.0, mains_more seed writes count k (suc n) xs us ws zs l o.1 m.1 h.1 j.1)

all_taken : (seed writes count n : ℕ) (xs ws : List Row) → is_storm count writes ≡ true → AllFrom IsOpened n xs → AllTwo (IsMain seed writes count count) n xs ws → AllFrom (IsStormed seed count writes) n ws
all_taken seed writes count n [] [] fits o m = tt
all_taken seed writes count n [] (w ∷ ws) fits o m = absurd m
all_taken seed writes count n (x ∷ xs) [] fits o m = absurd m
all_taken seed writes count n (x ∷ xs) (w ∷ ws) fits o m = (
  (
    m.0.same.0 ∙ o.0.number,
    stormed StandsFor high_of seed count writes n fits m.0.parts w.view (subst (λ k. Gathers StandsFor seed writes n k m.0.parts w.view) (let a = m.0.left_out in let e : m.0.out ≡ 0 = omega arith in e) m.0.gathers) m.0.many,
  ),
  all_taken seed writes count (suc n) xs ws fits o.1 m.1,
)

-- the storm is over
pub are_stormed : (seed writes count : ℕ) (xs ws : List Row) → is_storm count writes ≡ true → AreOpened xs → AllTwo (IsMain seed writes count count) 0 xs ws → AreStormed seed count writes ws
are_stormed seed writes count xs ws fits o m = (two_length (IsMain seed writes count count) 0 xs ws m ∙ o.0, all_taken seed writes count 0 xs ws fits o.1 m)

have_parts : (n m : ℕ) (xs : List Row) → m ≤ 64 → AllFrom IsOpened n xs → HaveMore m xs
have_parts n m [] l a = tt
have_parts n m (x ∷ xs) l a = ((let c = (a.0.gathers 0 0).count in omega arith), have_parts (suc n) m xs l a.1)

-- seats that have all parts have more than one for each client
pub clients_fit : (clients writes : ℕ) (xs : List Row) → is_storm clients writes ≡ true → AreOpened xs → HaveMore clients xs
clients_fit clients writes xs fits o = have_parts 0 clients xs (in_limits clients writes fits).clients_high o.1

four_of : (n : ℕ) (clients : List Client) (xs : List Row) → length xs ≡ 4 → AllFrom (λ c client. (client.number ≡ c) × (rows_of client.slots.items ≡ map given xs)) n clients → HaveFour clients
four_of n [] xs l a = tt
four_of n (c ∷ cs) xs l a = (sym (rows_length c.slots.items) ∙ ap length a.0.1 ∙ map_length xs ∙ l, four_of (suc n) cs xs l a.1)
  where
    map_length : (ys : List Row) → length (map given ys) ≡ length ys
    map_length [] = refl
    map_length (y ∷ ys) = ap suc (map_length ys)

pub have_four : (count : ℕ) (clients : List Client) (xs : List Row) → AreOpened xs → AreClients count xs clients → HaveFour clients
have_four count clients xs o a = four_of 0 clients xs o.0 a.1

pub get_here : {A : Type 0} (xs ys : List A) (x d : A) → get_or (xs ++ x ∷ ys) (length xs) d ≡ x
get_here [] ys x d = refl
get_here (y ∷ xs) ys x d = get_here xs ys x d

pub longer : {A : Type 0} (xs ys : List A) (x : A) → length xs < length (xs ++ x ∷ ys)
longer [] ys x = omega arith
longer (y ∷ xs) ys x = let r = longer xs ys x in omega arith

pub one_longer : {A : Type 0} (ys : List A) (y : A) → length (ys ++ y ∷ []) ≡ suc (length ys)
one_longer [] y = refl
one_longer (b ∷ ys) y = ap suc (one_longer ys y)

-- client k's seats wrote client k's writes
pub worked_at : (plan : Plan) (count k n : ℕ) (xs : List Row) (clients : List Client) (done : List (Result (Vec SeatSlot Global) AllocError)) (r : Result (Vec SeatSlot Global) AllocError)
    → AllFrom (λ c client. (client.number ≡ c) × (rows_of client.slots.items ≡ map given xs)) n clients → AllTwo (HasWorked plan) n clients done → k < length done → r ≡ get_or done k r
    → IfOk r (λ slots. HaveWritten (all_writes plan.seed (n + k) plan.writes) (map given xs) (rows_of slots.items))
worked_at plan count k n xs clients [] r a h l e = absurd (omega arith)
worked_at plan count k n xs [] (d ∷ done) r a h l e = absurd h
worked_at plan count zero n xs (c ∷ clients) (d ∷ done) r a h l e = subst (λ t. IfOk t (λ slots. HaveWritten (all_writes plan.seed (n + 0) plan.writes) (map given xs) (rows_of slots.items))) (sym e) (by d h.0)
  where
    by : (t : Result (Vec SeatSlot Global) AllocError) → HasWorked plan n c t → IfOk t (λ slots. HaveWritten (all_writes plan.seed (n + 0) plan.writes) (map given xs) (rows_of slots.items))
    by (Err x) w = tt
    by (Ok slots) w = subst (λ m. HaveWritten (all_writes plan.seed m plan.writes) (map given xs) (rows_of slots.items)) (a.0.0 ∙ (let z : n ≡ n + 0 = omega arith in z))
        (subst (λ rows. HaveWritten (all_writes plan.seed c.number plan.writes) rows (rows_of slots.items)) a.0.1 w)
worked_at plan count (suc k) n xs (c ∷ clients) (d ∷ done) r a h l e =
    subst (λ m. IfOk r (λ slots. HaveWritten (all_writes plan.seed m plan.writes) (map given xs) (rows_of slots.items))) (let z : suc n + k ≡ n + suc k = omega arith in z)
    (worked_at plan count k (suc n) xs clients done r a.1 h.1 (omega arith) e)

-- the next client of those that are done
pub worked_next : (plan : Plan) (count : ℕ) (xs : List Row) (clients : List Client) (front rest done : List (Result (Vec SeatSlot Global) AllocError)) (own : Result (Vec SeatSlot Global) AllocError) (slots : Vec SeatSlot Global)
    → AreClients count xs clients → AllTwo (HasWorked plan) 0 clients done → front ++ own ∷ rest ≡ done → own ≡ Ok slots
    → (length front < count) × HaveWritten (all_writes plan.seed (length front) plan.writes) (map given xs) (rows_of slots.items)
worked_next plan count xs clients front rest done own slots a h all is =
    let k = length front in
    let below : k < length done = subst (λ l. k < length l) all (longer front rest own) in
    let here : own ≡ get_or done k own = sym (get_here front rest own own) ∙ ap (λ l. get_or l k own) all in
    let wrote = worked_at plan count k 0 xs clients done own a.1 h below here in
    let many = two_length (HasWorked plan) 0 clients done h in
    let all_clients = a.0 in (
      omega arith,
      subst (λ n. HaveWritten (all_writes plan.seed n plan.writes) (map given xs) (rows_of slots.items)) (let e : 0 + k ≡ k = omega arith in e)
          (subst (λ t. IfOk t (λ s. HaveWritten (all_writes plan.seed (0 + k) plan.writes) (map given xs) (rows_of s.items))) is wrote),
    )
