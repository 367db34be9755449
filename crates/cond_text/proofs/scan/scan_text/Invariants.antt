use Rattle.std.proofs.Common.{length, ◌-◌, ◌≤◌, vec_len}
use Rattle.cond_text.specs.Scans.{next_of}
use Rattle.cond_text.proofs.ScanLaws.{Scanned}
use Rattle.cond_text.proofs.scan.scan_text.Given as goal

abbrev pub invariant-text : goal.invariant-text
invariant-text l = Scanned l.names l.text l.at (vec_len l.tokens) (next_of l.next) l.tokens.items × (l.at ≤ length l.text)

abbrev pub decreases-text : goal.decreases-text
decreases-text l = length l.text - l.at
