use Rattle.ascii_text.specs.Hex.{hex, short_hex}
use Rattle.run_devices.proofs.Registers.{put_same}
use Rattle.run_devices.proofs.lines.put_cycle.Goals as goal

pub returns-clause-put : goal.returns-clause-put
returns-clause-put g c =
    let at = c.args.at in
    put_same (g.O.Sink.held c.args.sink.now) (g.O.Sink.held c.put_registers.new.sink) c.put_registers.result at.clock c.short_hex.result.now (short_hex at.mpc) c.hex_digits-a.result (hex 8 at.a) c.hex_digits-b.result (hex 8 at.b) c.short_hex-2.result.now (short_hex at.sp) c.short_hex-3.result.now (short_hex at.vp) c.short_hex.ensures c.hex_digits-a.ensures c.hex_digits-b.ensures c.short_hex-2.ensures c.short_hex-3.ensures c.put_registers.ensures.put
