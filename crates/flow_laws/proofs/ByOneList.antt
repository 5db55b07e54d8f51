-- A tape is accepted exactly with one list of labels (the law of src/tape.rt).
use Rattle.std.proofs.Common.{◌↔◌, List}
use Rattle.nc_text.specs.declared.tape.Program.{Program}
use Rattle.block_words.specs.declared.dialect.Dialect.{Dialect}
use Rattle.block_order.specs.declared.program.ControlProgram.{ControlProgram}
use Rattle.tape_flow.specs.Controls.{controls}
use Rattle.tape_flow.specs.Exact.{IsAccepted}
use Rattle.tape_flow.specs.Forms.{ProgramForm}
use Rattle.flow_laws.specs.OneList.{ReadsWithOneList}
use Rattle.flow_laws.specs.Waits.{AreWaitFaultsExact}

-- If the faults of waits are exact, a tape is accepted exactly if it reads with one list of labels.
pub by_one_list : ((order : List ControlProgram) → AreWaitFaultsExact order) → (dialect : Dialect) (tape : List Program)
    (programs : List ProgramForm) → IsAccepted dialect tape programs ↔ ReadsWithOneList dialect tape programs
by_one_list law dialect tape programs = (
  λ own. record {
    reads = own.reads;
    fits = own.sound.fits;
    finds = own.sound.finds;
    unforked = (law (controls programs)).both.0 own.sound.waits;
  },
  λ own. record {
    reads = own.reads;
    sound = record { fits = own.fits; finds = own.finds; waits = (law (controls programs)).both.1 own.unforked };
  },
)
