-- `put_all`: with the bytes that are left put, the text is put.
use mathlib.Core.Path.{◌≡◌}
use Prim.Native.Nat.{◌≤◌, ◌-◌}
use lib.ListN.{length, drop}
use Rattle.page.specs.Page.{Page, puts}
use Rattle.page.proofs.put_all.Given as goal

abbrev pub invariant-loop-byte : goal.invariant-loop-byte
invariant-loop-byte l = (l.byte-index ≤ length l.text) × (length l.out ≡ length l.initial.out) × (◌≡◌ {A = Page} (puts (record { count = l.next; out = l.out }) (drop l.byte-index l.text)) (puts (record { count = l.at; out = l.initial.out }) l.text))
