-- A block that was read, as contracts see it: apart from where it lies in memory.
use Rattle.block_forms.specs.declared.block.FlowBlock.{FlowBlock}
use Rattle.block_forms.specs.Forms.{BlockForm}
use Rattle.block_forms.specs.Views.{form_of}

-- A block's line, its sequence number, what it says and its control.
abbrev pub block_form : FlowBlock → BlockForm
block_form block =
    record { line = block.line; sequence = block.sequence; form = form_of block.body; control = block.control }
