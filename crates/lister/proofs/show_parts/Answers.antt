-- `show_parts` puts its parts in a row. Assumes nothing.
use Rattle.showing.specs.Put.{then}
use Rattle.lister.specs.TextOfState.{parts_in}
use Rattle.lister.proofs.show_parts.Goals as goal

pub returns : goal.returns
unfolding parts_in
returns c =
    record {
      text = then c.show_fields.ensures (then c.show_operands-body.ensures.text (then c.show_waiting-wait.ensures.text c.put_bytes.ensures));
      bodies = c.show_operands-body.ensures.rest;
      waiting = c.show_waiting-wait.ensures.rest;
    }
