-- calls leave of which turns the seats are
use Rattle.std.proofs.Common.{◌≡◌, ℕ, List, [], ◌∷◌, ◌++◌, Option, Some, None, Bool, true, false, refl, sym, ap, ◌∙◌, subst}
use Rattle.std.specs.Prelude.{◌==◌, if◌then◌else◌}
use Rattle.std.proofs.lemmas.Bool.{eqb-true, eq-eqb}
use Rattle.atomic_table.specs.Seated.{TableId}
use Rattle.slab.specs.Slab.{get}
use Rattle.node_core.specs.declared.conn.Conn.{Conn}
use Rattle.node_core.specs.declared.conn.Conn.TheVariants as conn
use Rattle.node_core.specs.declared.node.Node.{Node}
use Rattle.node_core.specs.declared.out.NodeOut.{NodeOut}
use Rattle.node_core.specs.Clients.{client_fed}
use Rattle.node_core.specs.Outcomes.{ConnFed, FedAt}
use Rattle.vb_calls.specs.declared.calls.VbCall.{VbCall}
use Rattle.vb_calls.specs.declared.calls.VbReply.{VbReply}
use Rattle.vb_calls.specs.Programs.{Prog, Done, Call, Ran}
use Rattle.vbucket.specs.Rows.{row_at}
use Rattle.vbucket.proofs.RowsAt.{at_push}
use Rattle.node_threads.specs.declared.slot.SeatSlot.{SeatSlot}
use Rattle.node_threads.specs.Seats.{VbView, Row, number_of, row_of, rows_of, has_row, seat_step}
use Rattle.node_threads.proofs.Lists.{no_row, rows_push}
use Rattle.thread_tests.specs.Tables.{AreOf, AreShared, StayOf}

some_is : {A : Type 0} (a b : A) → Some a ≡ Some b → a ≡ b
some_is a b e = cc

module _ (tables : ℕ → TableId) where
  called : (old : List Row) (v w : ℕ) (x row : Row) (y : VbView) (b : Bool) → (w == v) ≡ b → row_at number_of v old ≡ Some x → AreOf tables old
      → (if b then Some (record x { view = y }) else row_at number_of w old) ≡ Some row → row.table ≡ tables w
  called old v w x row y true e at are is = ap (λ (r : Row). r.table) (sym (some_is (record x { view = y }) row is)) ∙ (are v x at ∙ ap tables (sym (eqb-true w v e)))
  called old v w x row y false e at are is = are w row is

  step_keeps : (old : List Row) (v : ℕ) (call : VbCall) (reply : Option VbReply) (new : List Row) → seat_step old v call reply new → AreOf tables old → AreOf tables new
  step_keeps old v call None new (none, same) are = subst (AreOf tables) (sym same) are
  step_keeps old v call (Some reply) new (x, y, at, turn, with) are = λ w row is. called old v w x row y (w == v) refl at are (sym (with w) ∙ is)

  ran_keeps : {A : Type 0} (prog : Prog A) (old : List Row) (answer : A) (new : List Row) → Ran seat_step prog old answer new → AreOf tables old → AreOf tables new
  ran_keeps (Done a) old answer new ran are = subst (AreOf tables) (sym ran.1) are
  ran_keeps (Call v call next) old answer new (reply, mid, step, ran) are = ran_keeps (next reply) mid answer new ran (step_keeps old v call reply mid step are)

  conn_keeps : (clock : ℕ) (piece : List ℕ) (found : Conn) (old : List Row) (out : NodeOut) (left : Conn) (new : List Row) → ConnFed seat_step clock piece found old out left new → AreOf tables old → AreOf tables new
  conn_keeps clock piece (conn.Client kept) old out (conn.Client left) new f are = ran_keeps (client_fed clock piece kept.plain) old f.2.0 new f.2.1 are
  conn_keeps clock piece (conn.Client kept) old out (conn.Peer left) new f are = absurd f
  conn_keeps clock piece (conn.Peer kept) old out left new f are = subst (AreOf tables) (sym f.0) are

module _ {J : Type 0} where
  fed_keeps : (clock key : ℕ) (piece : List ℕ) (found : Option Conn) (old : Node (List Row) J) (out : NodeOut) (new : Node (List Row) J) → FedAt seat_step clock key piece found old out new → StayOf old.vbs new.vbs
  fed_keeps clock key piece None old out new f tables are = subst (AreOf tables) (sym (ap (λ (n : Node (List Row) J). n.vbs) f.1)) are
  fed_keeps clock key piece (Some found) old out new f tables are = conn_keeps tables clock piece found old.vbs out f.left new.vbs f.fed are

  pub feeds : (clock key : ℕ) (piece : List ℕ) (begun old : Node (List Row) J) (out : NodeOut) (new : Node (List Row) J) → FedAt seat_step clock key piece (get old.conns key) old out new → StayOf begun.vbs old.vbs → StayOf begun.vbs new.vbs
  feeds clock key piece begun old out new f stay tables are = fed_keeps clock key piece (get old.conns key) old out new f tables (stay tables are)

  pub serves : (seats rows : List Row) (begun opened left : Node (List Row) J) → begun.vbs ≡ seats → opened.vbs ≡ begun.vbs → StayOf opened.vbs left.vbs → rows ≡ left.vbs → StayOf seats rows
  serves seats rows begun opened left made kept stay given tables are = subst (AreOf tables) (sym given) (stay tables (subst (AreOf tables) (sym (kept ∙ made)) are))

-- no seats
pub none_of : (tables : ℕ → TableId) (rows : List Row) → rows ≡ [] → AreOf tables rows
none_of tables [] e v row is = cc
none_of tables (r ∷ rows) e v row is = cc

pub none_stay : (old : List Row) (slots : List SeatSlot) → slots ≡ [] → StayOf old (rows_of slots)
none_stay old slots none tables are = none_of tables (rows_of slots) (ap rows_of none)

nowhere : TableId
nowhere = record { words = 0; slots = 0; views_name = 0; atom = 0; block = 0; offset = 0; slot_names = [] }

pub none_shared : (main one two : List Row) → main ≡ [] → one ≡ [] → two ≡ [] → AreShared main one two
none_shared main one two m o t = (λ v. nowhere, none_of (λ v. nowhere) main m, none_of (λ v. nowhere) one o, none_of (λ v. nowhere) two t)

-- one seat more
abbrev pub with_table : (ℕ → TableId) → ℕ → TableId → ℕ → TableId
with_table tables v t w = if w == v then t else tables w

module _ (tables : ℕ → TableId) (v : ℕ) (t : TableId) where
  more_at : (rows : List Row) (x row : Row) (w : ℕ) (b : Bool) → (w == v) ≡ b → x.table ≡ t → AreOf tables rows → (if b then Some x else row_at number_of w rows) ≡ Some row → row.table ≡ (if b then t else tables w)
  more_at rows x row w true e same are is = ap (λ (r : Row). r.table) (sym (some_is x row is)) ∙ same
  more_at rows x row w false e same are is = are w row is

  more : (rows : List Row) (x : Row) → x.number ≡ v → x.table ≡ t → has_row rows v ≡ false → AreOf tables rows → AreOf (with_table tables v t) (rows ++ x ∷ [])
  more rows x number same none are w row is = more_at rows x row w (w == v) refl same are (sym (at_push number_of v w rows x (no_row rows v none) number) ∙ is)

pub dealt : (v : ℕ) (main main' one one' two two' : List Row) (x y z : Row) → main' ≡ main ++ x ∷ [] → one' ≡ one ++ y ∷ [] → two' ≡ two ++ z ∷ [] → x.number ≡ v → y.number ≡ v → z.number ≡ v
    → y.table ≡ x.table → z.table ≡ x.table → has_row main v ≡ false → has_row one v ≡ false → has_row two v ≡ false → AreShared main one two → AreShared main' one' two'
dealt v main main' one one' two two' x y z im io it nx ny nz ty tz hm ho ht (tables, m, o, t) = (
  with_table tables v x.table,
  subst (AreOf (with_table tables v x.table)) (sym im) (more tables v x.table main x nx refl hm m),
  subst (AreOf (with_table tables v x.table)) (sym io) (more tables v x.table one y ny ty ho o),
  subst (AreOf (with_table tables v x.table)) (sym it) (more tables v x.table two z nz tz ht t),
)

-- one seat less
still : (b : Bool) (r row : Row) (rest more : Option Row) → (rest ≡ Some row → more ≡ Some row) → (if b then Some r else rest) ≡ Some row → (if b then Some r else more) ≡ Some row
still true r row rest more next e = e
still false r row rest more next e = next e

front_at : (rows : List Row) (x row : Row) (w : ℕ) → row_at number_of w rows ≡ Some row → row_at number_of w (rows ++ x ∷ []) ≡ Some row
front_at [] x row w e = cc
front_at (r ∷ rows) x row w e = still (r.number == w) r row (row_at number_of w rows) (row_at number_of w (rows ++ x ∷ [])) (front_at rows x row w) e

fewer : (rows : List Row) (x : Row) → StayOf (rows ++ x ∷ []) rows
fewer rows x tables are w row is = are w row (front_at rows x row w is)

last_table : (rows : List Row) (x : Row) → has_row rows x.number ≡ false → (tables : ℕ → TableId) → AreOf tables (rows ++ x ∷ []) → x.table ≡ tables x.number
last_table rows x none tables are = are x.number x (at_push number_of x.number x.number rows x (no_row rows x.number none) refl ∙ ap (λ b. if b then Some x else row_at number_of x.number rows) (eq-eqb x.number x.number refl))

pub shared_stay : (main main' one one' two two' : List Row) → AreShared main one two → StayOf main main' → StayOf one one' → StayOf two two' → AreShared main' one' two'
shared_stay main main' one one' two two' (tables, m, o, t) sm so st = (tables, sm tables m, so tables o, st tables t)

pub all_shared : (main main' one one' two two' : List Row) → AreShared main one two → main' ≡ main → StayOf one one' → StayOf two two' → AreShared main' one' two'
all_shared main main' one one' two two' (tables, m, o, t) same so st = (tables, subst (AreOf tables) (sym same) m, so tables o, st tables t)

pub popped : (old rest : List SeatSlot) (slot : SeatSlot) → old ≡ rest ++ slot ∷ [] → StayOf (rows_of old) (rows_of rest)
popped old rest slot is = subst (λ rows. StayOf rows (rows_of rest)) (sym (ap rows_of is ∙ rows_push rest slot)) (fewer (rows_of rest) (row_of slot))

pub popped_table : (old rest : List SeatSlot) (slot : SeatSlot) → old ≡ rest ++ slot ∷ [] → has_row (rows_of rest) slot.number ≡ false
    → (tables : ℕ → TableId) → AreOf tables (rows_of old) → (row_of slot).table ≡ tables slot.number
popped_table old rest slot is none tables are = last_table (rows_of rest) (row_of slot) none tables (subst (AreOf tables) (ap rows_of is ∙ rows_push rest slot) are)
