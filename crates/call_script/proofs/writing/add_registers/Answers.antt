use Rattle.call_script.proofs.Texts.{registers_step}
use Rattle.call_script.proofs.writing.add_registers.Goals as goal

pub loop-number-preserved : goal.loop-number-preserved
loop-number-preserved c =
    registers_step c.args.registers.now c.loop-number.number _ c.args.text.now c.loop-number.text c.add_register.new.text c.loop-number-test.true c.loop-number.invariant c.in_ok-add_register.ensures
