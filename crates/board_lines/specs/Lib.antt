-- A reader must believe: Queues and Deliveries (what waits to be sent, and what a delivery does); ControlItems (what a control text has); KeptTexts (what is kept of a
-- policy's text, of which Laws says that it is refused as the text is); Laws. Readings serves the reader's contract; a law says that what is given so is what the text has.
pub mod ControlItems
pub mod Deliveries
pub mod KeptTexts
pub mod Laws
pub mod Queues
pub mod Readings
