use Rattle.std.proofs.Common.{sym, append_assoc, arith}
use Rattle.ir_print.proofs.Digits.{one_digit}
use Rattle.ir_print.proofs.hexadecimal.+put_digits.Goals as goal

pub returns : goal.returns
returns t c =
    let digits = one_digit c.args.many c.args.number (omega (arith, c.if-many-eq0.false)) in
    rw (sym digits, c.in_ok-push.ensures.items, c.last_digit.ensures, c.in_ok-put_digits.ensures) (simp append_assoc)
