-- A reader must believe: Script (the script that a number makes) with Draws (how its lines are drawn) and Lines (how they are spelled); Policy (the policy
-- under which it runs); Summary (the summary of a report). Laws has what holds of each script. The spelling of numbers is that of report_text, the generator
-- that of rand_pcg.
pub mod Draws
pub mod Laws
pub mod Lines
pub mod Policy
pub mod Script
pub mod Summary
