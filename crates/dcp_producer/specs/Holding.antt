-- what a window holds back, in words beside the definitions
use Rattle.std.specs.Prelude.{ℕ, ◌+◌, ◌<◌, ◌≤◌, ◌≡◌, ◌⊎◌, ◌↔◌, List, [], ◌∷◌, ◌++◌, length, map}
use Rattle.std.specs.List.{concat}
use Rattle.mcbp_frame.specs.declared.frame.Frame.{Frame}
use Rattle.mcbp_frame.specs.Spelling.{spelling}
use Rattle.vb_calls.specs.Programs.{Prog, Done}
use Rattle.flow_control.specs.declared.window.Window.{Window}
use Rattle.dcp_producer.specs.declared.halt.Halt.{Halt}
use Rattle.dcp_producer.specs.declared.halt.Halt.TheVariants as halt
use Rattle.dcp_producer.specs.Producers.{Served}

-- so many bytes went through a window: at size 0 nothing changes, and else less than its size was outstanding, and so many more are then
abbrev pub Passes : ℕ → Window → Window → Type 0
Passes len w after =
    (after.size ≡ w.size) × (((w.size ≡ 0) × (after.outstanding ≡ w.outstanding)) ⊎ ((w.outstanding < w.size) × (after.outstanding ≡ w.outstanding + len)))

-- these frames did, whole and one after the other
abbrev pub PassAll : List Frame → Window → Window → Type 0
PassAll [] w after = after ≡ w
PassAll (f ∷ fs) w after = (mid : Window) × Passes (length (spelling f)) w mid × PassAll fs mid after

-- a window is shut: it has a size, and as much is outstanding, or more
abbrev pub IsShut : Window → Type 0
IsShut w = (0 < w.size) × (w.size ≤ w.outstanding)

-- a pull of k frames put these, each through the window; and it says that the window held one back exactly where it put fewer and left the window shut
pub record HoldsBack (k : ℕ) (s left : Served) (halted : Halt) : Type 0 where
  pub put : List Frame
  pub few : length put ≤ k
  pub out : left.out ≡ s.out ++ concat (map spelling put)
  pub count : left.count ≡ s.count + length put
  pub through : PassAll put s.end.window left.end.window
  pub full : (halted ≡ halt.Full) ↔ ((length put < k) × IsShut left.end.window)

-- so a pull does
abbrev pub PullHoldsBack : ℕ → Served → Served × Halt → Type 0
PullHoldsBack k s (left, halted) = HoldsBack k s left halted

-- so many bytes were acknowledged: they are outstanding no more, or nothing is where there were fewer. There is no answer, no line and no call, and nothing else changes
pub record LetsGo (bytes : ℕ) (s : Served) (prog : Prog Served) : Type 0 where
  pub rest : ℕ
  pub fewer : bytes ≤ s.end.window.outstanding → rest + bytes ≡ s.end.window.outstanding
  pub none : s.end.window.outstanding ≤ bytes → rest ≡ 0
  pub only : prog ≡ Done (record s { end = record s.end { window = record { size = s.end.window.size; outstanding = rest } } })
