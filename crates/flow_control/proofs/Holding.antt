-- what a window holds back
use Rattle.std.proofs.Common.{◌≡◌, ◌↔◌, ◌⊎◌, ℕ, ◌+◌, ◌<◌, ◌≤◌, Bool, true, false, List, [], ◌∷◌, refl, ap, arith}
use Rattle.std.specs.Prelude.{nat_lt, ◌==◌, ◌||◌, IsTrue, if◌then◌else◌}
use Rattle.std.proofs.lemmas.Bool.Decides.{nat_tests}
use Rattle.flow_control.specs.declared.window.Window.{Window}
use Rattle.flow_control.specs.Windows.{is_open, with_put}
use Rattle.flow_control.specs.Laws.{Move, Put, Acked, Sized, MayMove, MayMoveAll, moved, moved_all, WindowsHold}

-- one move keeps the bound
put_below : (longest largest : ℕ) (w : Window) (len : ℕ) (b : Bool) → (w.size == 0) ≡ b → w.size ≤ largest → 0 < largest → w.outstanding < largest + longest
    → IsTrue (b || nat_lt w.outstanding w.size) → len ≤ longest → (if b then w else record w { outstanding = w.outstanding + len }).outstanding < largest + longest
put_below longest largest w len true e s g o h l = o
put_below longest largest w len false e s g o h l = let below : w.outstanding < w.size = grind (arith, nat_tests, h) in omega arith

below : (longest largest : ℕ) (w : Window) (m : Move) → w.size ≤ largest → 0 < largest → w.outstanding < largest + longest → MayMove longest largest w m
    → (moved w m).outstanding < largest + longest
below longest largest w (Put len) s g o h = put_below longest largest w len (w.size == 0) refl s g o h.0 h.1
below longest largest w (Acked len) s g o h = omega arith
below longest largest w (Sized size) s g o h = o

bound : (longest largest : ℕ) (w : Window) (ms : List Move) → 0 < largest → w.outstanding < largest + longest → MayMoveAll longest largest w ms
    → (moved_all w ms).outstanding < largest + longest
bound longest largest w [] g o h = o
bound longest largest w (m ∷ ms) g o h = bound longest largest (moved w m) ms g (below longest largest w m h.0 g o h.1) h.2

opens : (w : Window) → IsTrue (is_open w) ↔ ((w.size ≡ 0) ⊎ (w.outstanding < w.size))
opens w = grind (arith, nat_tests)

adds : (w : Window) (len : ℕ) (b : Bool) → (w.size == 0) ≡ b → 0 < w.size
    → (if b then w else record w { outstanding = w.outstanding + len }).outstanding ≡ w.outstanding + len
adds w len true e s = let none : w.size ≡ 0 = grind (arith, nat_tests) in absurd (omega (arith, none, s))
adds w len false e s = refl

none_added : (w : Window) (len : ℕ) → w.size ≡ 0 → with_put len w ≡ w
none_added w len e = ap (λ n. if n == 0 then w else record w { outstanding = w.outstanding + len }) e

put_size : (w : Window) (len : ℕ) (b : Bool) → (if b then w else record w { outstanding = w.outstanding + len }).size ≡ w.size
put_size w len true = refl
put_size w len false = refl

pub windows_hold : WindowsHold
windows_hold = record {
  opens = opens;
  adds = λ w len s. adds w len (w.size == 0) refl s;
  adds_none = none_added;
  takes = λ w len l. omega arith;
  takes_all = λ w len l. omega arith;
  sizes = λ w len. (put_size w len (w.size == 0), refl);
  sized = λ w size. (refl, refl);
  bound = bound;
}
