use Rattle.std.proofs.Common.{◌≤◌, length, arith, ap}
use Rattle.meaning.specs.CaseBytes.{case_bytes}
use Rattle.lifted_case.specs.CaseWritten.{most_bytes}
use Rattle.lifted_case.proofs.CaseReadable.{bytes_read}
use Rattle.lifted_case.proofs.case_bytes.write_case.Goals as goal

pub returns-clause-ok : goal.returns-clause-ok
returns-clause-ok c =
    let all = c.in_ok-bytes.ensures in
    let few : length c.in_ok-bytes.bytes.items ≤ most_bytes = omega (arith, c.in_ok-bytes.bytes.ok.0) in
    let few_bytes : length (case_bytes all.0) ≤ most_bytes = omega (arith, ap length all.2) in
    (all.0, all.1, all.2, few, bytes_read c.args.d.now.region c.args.case.now all.0 c.requires.rules all.1 few_bytes c.in_ok-bytes.bytes.items all.3)
